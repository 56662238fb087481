use Rattle.store_format.proofs.ApartLemmas.{files_are_stores}
use Rattle.store_format.proofs.laws.files_are_stores.Goals as goal

pub returns : goal.returns
returns c = files_are_stores
