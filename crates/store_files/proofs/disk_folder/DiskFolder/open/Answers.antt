use Rattle.std.proofs.Common.{rules, ◌≡◌, ◌∙◌, Some, ap, sym, subst, string_bytes, le_of_eq}
use Rattle.std.specs.Prelude.{IfSome, option_map}
use Rattle.store_files.specs.Disk.{replay}
use Rattle.store_files.specs.Paths.{lock_of}
use Rattle.store_files.specs.Knowledge.{said, rank}
use Rattle.store_files.specs.Known.{Knows, AreSo}
use Rattle.store_files.specs.Mark.{claims_of}
use Rattle.store_files.specs.Opened.{IsMarked}
use Rattle.store_files.proofs.KnownLemmas.{less_known}
use Rattle.store_files.proofs.disk_folder.DiskFolder.open.Goals as goal

pub invariant_of-result : goal.invariant_of-result
invariant_of-result g c = λ h.
    let d = c.args.path.now in
    let mark = c.in_ok-mark.mark in
    let found = c.in_ok-found.found in
    let knows = said mark.knowledge in
    let entries = mark.knowledge.has_kept_entries in
    let made = g.S.SystemFiles.changes c.args.system in
    let start = g.S.SystemFiles.start in
    let was = g.met.S.SystemFiles.first_so c.args.system d h (c.requires.unchanged h) in
    let path : d ≡ string_bytes c.in_ok-path.path = search rules in
    let so = c.in_ok-found.ensures.so h was in
    let known = less_known _ knows _ entries _ (λ n. le_of_eq (ap rank (c.in_ok-mark.ensures.files n))) c.in_ok-mark.ensures.entries so in
    let at : c.as_str.result.now ≡ lock_of d = c.as_str.ensures.value ∙ c.in_ok-lock_path.ensures in
    let locks = c.in_ok-lock.ensures.locks h d at in
    let claims = c.in_ok-found.ensures.claims h locks in
    let place = c.in_ok-mark.ensures.place in (
      record {
        folder = c.in_ok-folder.ensures.opened h ∙ path;
        knows = subst (λ p. Knows knows entries (replay (made p) (start p))) path known;
      },
      tt,
      λ _. subst (λ p. g.S.SystemFiles.was_so c.args.system p) path was,
      λ _. subst
          (λ p. IsMarked (option_map g.S.SystemFiles.locks mark.lock) (option_map g.S.SystemFiles.place mark.lock) (g.S.SystemFiles.was_so c.args.system p)
          (g.S.SystemFiles.claims c.args.system p) (replay (made p) (start p)) p mark.boot.items (string_bytes mark.inode) mark.mark) path
          record {
            lock = ap (λ l. option_map g.S.SystemFiles.locks l) c.in_ok-mark.ensures.lock ∙ ap (λ x. Some x) locks;
            here = ap (λ l. option_map g.S.SystemFiles.place l) c.in_ok-mark.ensures.lock ∙ ap (λ x. Some x) (c.in_ok-found.ensures.place h)
                ∙ ap (λ b. Some (b.items, string_bytes found.inode)) (sym place.0) ∙ ap (λ i. Some (mark.boot.items, string_bytes i)) (sym place.1);
            claimed = subst (λ m. IfSome m (λ x. g.S.SystemFiles.claims c.args.system d ≡ claims_of x)) (sym c.in_ok-mark.ensures.mark) claims;
            so = subst (λ x. AreSo x (replay (made d) (start d))) (sym claims) so;
            always = was;
          },
    )
