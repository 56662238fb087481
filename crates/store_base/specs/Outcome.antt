-- Refusals.
use Rattle.std.specs.Prelude.{ℕ}
use Rattle.store_base.specs.declared.fault.ReadFault.{ReadFault}
use Rattle.store_base.specs.declared.fault.ReadFault.TheVariants as fault
use Rattle.store_base.specs.declared.error.Cause.TheVariants.{Memory as OutOfMemory}
use Rattle.store_base.specs.declared.error.StoreError.{StoreError}
use Rattle.store_base.specs.declared.error.StoreError.TheVariants.{ShortFile, BadVersion, BadBlockKind, BadOffset}
use Rattle.store_base.specs.declared.error.StoreError.TheVariants.{BadIndex, InvalidArgument, DamagedDocument}
use Rattle.store_base.specs.declared.error.StoreError.TheVariants.{BadDocument, Read, Memory, OldVersion}
use Rattle.store_base.specs.declared.error.StoreError.TheVariants.{Unserializable, BlockTooLarge, TooManyDocs, Failed}
use Rattle.store_base.specs.declared.error.StoreError.TheVariants.{BadPeriod}

-- the number of a refusal
abbrev pub number_of : StoreError → ℕ
number_of (ShortFile _) = 1
number_of (BadVersion _) = 2
number_of (BadBlockKind _) = 3
number_of BadOffset = 4
number_of BadIndex = 5
number_of (InvalidArgument _) = 6
number_of (DamagedDocument _) = 7
number_of BadDocument = 8
number_of Read = 9
number_of Memory = 10
number_of OldVersion = 11
number_of Unserializable = 12
number_of BlockTooLarge = 13
number_of TooManyDocs = 14
number_of (Failed _) = 15
number_of (BadPeriod _) = 16

-- once bytes went out, lack of memory is a failure
abbrev pub after_first_byte : StoreError → StoreError
after_first_byte Memory = Failed OutOfMemory
after_first_byte e = e

-- the refusal that a read that failed is answered by
abbrev pub read_refusal : ReadFault → StoreError
read_refusal fault.Device = Read
read_refusal fault.Memory = Memory
