use Rattle.store_commands.proofs.SoundLemmas.{blocks_of_documents_are_sound}
use Rattle.store_commands.proofs.laws.blocks_of_documents_are_sound.Goals as goal

pub returns : goal.returns
returns c = blocks_of_documents_are_sound
