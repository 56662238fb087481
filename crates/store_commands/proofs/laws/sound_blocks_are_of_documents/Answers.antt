use Rattle.store_commands.proofs.SoundLemmas.{sound_blocks_are_of_documents}
use Rattle.store_commands.proofs.laws.sound_blocks_are_of_documents.Goals as goal

pub returns : goal.returns
returns c = sound_blocks_are_of_documents
