use Rattle.std.proofs.Common.{◌≡◌, ◌++◌, take}
use Rattle.std.specs.String.{string_bytes}
use Rattle.store_page.specs.Excerpts.{hex}
use Rattle.store_page.proofs.excerpts.push_hex.Given as goal

abbrev pub invariant-loop-byte : goal.invariant-loop-byte
invariant-loop-byte l = string_bytes l.page ≡ string_bytes l.fn.page ++ hex (take l.byte-index l.fn.bytes)
