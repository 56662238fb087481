use Rattle.std.proofs.Common.{rules, refl, ◌≡◌, ◌∙◌, true, false, sym, subst, string_bytes, is_ok, IsTrue}
use Rattle.std.specs.Prelude.{is_some, not}
use Rattle.store_files.specs.Disk.{replay}
use Rattle.store_files.specs.Paths.{IsPath}
use Rattle.store_files.specs.Steps.{Creates}
use Rattle.store_files.specs.Knowledge.{said}
use Rattle.store_files.specs.Known.{AreSo}
use Rattle.store_files.specs.declared.knowledge.Standing.TheVariants.{Failed}
use Rattle.store_files.proofs.DiskLemmas.{creates}
use Rattle.store_files.proofs.MarkedLemmas.{made_stays, still}
use Rattle.store_files.proofs.KnownLemmas.{ready, doubted, made_unknown, made_fresh, not_read}
use Rattle.store_files.proofs.disk_folder.DiskFolder.make.Goals as goal

pub invariant_of-self : goal.invariant_of-self
invariant_of-self g c = λ h.
    let d = string_bytes c.self.inside.path in
    let name = c.args.name.now in
    let at : IsPath d name c.as_str.result.now = search rules in
    let did = creates name false (g.S.SystemFiles.start d) (g.S.SystemFiles.changes c.self.inside.system d) (g.S.SystemFiles.changes c.create.new.self d)
    ((g.met.S.SystemFiles.sound c.self.inside.system d).possible h) (c.in_err-create.ensures.made h d name at) in
    let before = (c.self.invariant h).0 in
    let writable : not (is_some c.self.inside.mark.lock) ≡ false = search rules in
    let doubts = doubted _ (said c.doubt_entries.new.self) _ _ _ c.doubt_entries.ensures.files c.doubt_entries.ensures.entries before.knows in (
      ready _ _ _ _ d _ _ _ before
          (made_unknown name false _ (said c.note.new.self) _ _ _ _ c.note.ensures.files.no_more (c.note.ensures.entries ∙ c.doubt_entries.ensures.entries) doubts did),
      tt,
      not_read c.self.inside.mark.lock writable,
      λ kept.
          let keeps : IsTrue c.args.self.now.keeps_mark = search rules in
          let given = c.in_ok-begin.ensures.permitted h keeps in
          let claims = g.S.SystemFiles.claims c.self.inside.system d in
          let may : AreSo claims (replay (g.S.SystemFiles.changes c.self.inside.system d) (g.S.SystemFiles.start d)) × ((claims.entries ≡ false) × (claims.files name ≡ Failed)) = search rules in
          still _ _ claims _ _ _ d _ _ c.self.inside.mark.mark ((c.self.invariant h).3 kept) (c.in_err-create.ensures.mark h d) (made_stays name false claims _ _ may.0 may.1 did),
    )

pub returns-in_err-create-clause-made : goal.returns-in_err-create-clause-made
returns-in_err-create-clause-made g c = λ h.
    let name = c.args.name.now in
    let d = c.args.self.now.path in
    let at : IsPath d name c.as_str.result.now = search rules in
    let changes : g.S.SystemFiles.changes c.self.inside.system ≡ g.S.SystemFiles.changes c.args.self.now.system = search rules in
    let failed : is_ok c.from_residual-in_err-create.result ≡ false = search rules in
    let start = g.S.SystemFiles.start d in
    let new = g.S.SystemFiles.changes c.create.new.self d in
    subst (λ ok. Creates name ok (replay (g.S.SystemFiles.changes c.args.self.now.system d) start) (replay new start)) (sym failed)
    (subst (λ changes. Creates name false (replay (changes d) (g.S.SystemFiles.start d)) (replay (g.S.SystemFiles.changes c.create.new.self d) (g.S.SystemFiles.start d))) changes
    (creates name false (g.S.SystemFiles.start d) (g.S.SystemFiles.changes c.self.inside.system d) (g.S.SystemFiles.changes c.create.new.self d)
    ((g.met.S.SystemFiles.sound c.self.inside.system d).possible h) (c.in_err-create.ensures.made h d name at)))

pub invariant_of-self-2 : goal.invariant_of-self-2
invariant_of-self-2 g c = λ h.
    let d = string_bytes c.self.inside.path in
    let name = c.args.name.now in
    let at : IsPath d name c.as_str.result.now = search rules in
    let did = creates name true (g.S.SystemFiles.start d) (g.S.SystemFiles.changes c.self.inside.system d) (g.S.SystemFiles.changes c.create.new.self d)
    ((g.met.S.SystemFiles.sound c.self.inside.system d).possible h) (c.in_ok-create.ensures.made h d name at) in
    let before = (c.self.invariant h).0 in
    let writable : not (is_some c.self.inside.mark.lock) ≡ false = search rules in
    let doubts = doubted _ (said c.doubt_entries.new.self) _ _ _ c.doubt_entries.ensures.files c.doubt_entries.ensures.entries before.knows in
    let unknown = made_unknown name true _ (said c.note.new.self) _ _ _ _ c.note.ensures.files.no_more (c.note.ensures.entries ∙ c.doubt_entries.ensures.entries) doubts did in (
      ready _ _ _ _ d _ _ _ before (made_fresh name _ (said c.note-2.new.self) _ _ _ c.note-2.ensures.files.no_more c.note-2.ensures.entries (did.fresh refl) unknown),
      tt,
      not_read c.self.inside.mark.lock writable,
      λ kept.
          let keeps : IsTrue c.args.self.now.keeps_mark = search rules in
          let given = c.in_ok-begin.ensures.permitted h keeps in
          let claims = g.S.SystemFiles.claims c.self.inside.system d in
          let may : AreSo claims (replay (g.S.SystemFiles.changes c.self.inside.system d) (g.S.SystemFiles.start d)) × ((claims.entries ≡ false) × (claims.files name ≡ Failed)) = search rules in
          still _ _ claims _ _ _ d _ _ c.self.inside.mark.mark ((c.self.invariant h).3 kept) (c.in_ok-create.ensures.mark h d) (made_stays name true claims _ _ may.0 may.1 did),
    )

pub returns-clause-made : goal.returns-clause-made
returns-clause-made g c = λ h.
    let name = c.args.name.now in
    let d = c.args.self.now.path in
    let at : IsPath d name c.as_str.result.now = search rules in
    let changes : g.S.SystemFiles.changes c.self.inside.system ≡ g.S.SystemFiles.changes c.args.self.now.system = search rules in
    subst (λ changes. Creates name true (replay (changes d) (g.S.SystemFiles.start d)) (replay (g.S.SystemFiles.changes c.create.new.self d) (g.S.SystemFiles.start d))) changes
    (creates name true (g.S.SystemFiles.start d) (g.S.SystemFiles.changes c.self.inside.system d) (g.S.SystemFiles.changes c.create.new.self d)
    ((g.met.S.SystemFiles.sound c.self.inside.system d).possible h) (c.in_ok-create.ensures.made h d name at))
