-- What opening leaves of a file, when it fails for a read, and how many bytes it asks for.
use Rattle.std.proofs.Common.{◌≡◌, ◌⊎◌, ◌<◌, ◌≤◌, ◌+◌, ℕ, ◌-◌, true, false, List, length, nat_lt, refl, sym, ap, ◌∙◌, subst, arith, inl, inr}
use Rattle.std.specs.Prelude.{Result, Ok, Err, slice_range}
use Rattle.std.proofs.lemmas.Bool.{cases_lt, ltb-true, ltb-false}
use Rattle.store_base.proofs.ListLemmas.{length-slice}
use Rattle.store_base.specs.Counts.{HasRisen, raised}
use Rattle.store_base.specs.Files.{Part}
use Rattle.store_base.specs.declared.error.StoreError.{StoreError}
use Rattle.store_base.specs.declared.error.StoreError.TheVariants.{Read}
use Rattle.store_format.specs.declared.footer.DocStoreFooter.{DocStoreFooter}
use Rattle.store_format.specs.Extraction.{ExtractsFooter}
use Rattle.store_format.specs.FileReading.{Comes}
use Rattle.layered_index.specs.Layers.{Index}
use Rattle.store_reader.specs.Opening.{IndexFrom, ReadsIndex, Opens, OpensFrom}
use Rattle.store_format.proofs.FooterHandedLemmas.{IsSameFile, same_part, extracts_same, footer_failed, footer_steady}

reads_same : (mid new : Part) (f : DocStoreFooter) (found : Result Index StoreError) → ReadsIndex mid f found new → IsSameFile mid new
reads_same mid new f found r = (elim (nat_lt (length mid.content - 28) f.offset) as (λ y. nat_lt (length mid.content - 28) f.offset ≡ y → IsSameFile mid new) [
  | true ↦ λ t. same_part mid new (r.past (ltb-true _ _ t)).1
  | false ↦ λ t. let once = (r.within (ltb-false _ _ t)).1.once in record { content = once.content; failures = once.failures }
]) refl

handed_from : (mid new : Part) (said : Result DocStoreFooter StoreError) (e : StoreError) → OpensFrom mid said (Err e) new → new.content ≡ mid.content
handed_from mid new (Err d) e on = ap (λ (p : Part). p.content) on.1
handed_from mid new (Ok f) e on = (reads_same mid new f (Err e) on).content

-- A refusal leaves what the file holds, in its range.
pub given_back : (old new : Part) (e : StoreError) → Opens old (Err e) new → new.content ≡ old.content
given_back old new e o = handed_from o.mid new o.footer e o.goes_on ∙ (extracts_same old o.mid o.footer o.reads).content

accepted_from : (mid new : Part) (said : Result DocStoreFooter StoreError) (found : DocStoreFooter × Index) → OpensFrom mid said (Ok found) new → new.content ≡ mid.content
accepted_from mid new (Err d) found on = absurd (let no = on.0 in cc)
accepted_from mid new (Ok f) found on = (reads_same mid new f (Ok found.1) on.1).content

-- So does a file that is accepted.
pub accepted_handed : (old new : Part) (found : DocStoreFooter × Index) → Opens old (Ok found) new → new.content ≡ old.content
accepted_handed old new found o = accepted_from o.mid new o.footer found o.goes_on ∙ (extracts_same old o.mid o.footer o.reads).content

index_failed : (mid new : Part) (f : DocStoreFooter) → ReadsIndex mid f (Err Read) new → HasRisen mid.failures new.failures
index_failed mid new f r = (elim (nat_lt (length mid.content - 28) f.offset) as (λ y. nat_lt (length mid.content - 28) f.offset ≡ y → HasRisen mid.failures new.failures) [
  | true ↦ λ t. let no = (r.past (ltb-true _ _ t)).0 in absurd cc
  | false ↦ λ t. let read = r.within (ltb-false _ _ t) in go read.0 read.1 read.2
]) refl
  where
    go : (came : Result (List ℕ) StoreError) → Comes mid f.offset (length mid.content - 28) came new → IndexFrom f came (Err Read) → HasRisen mid.failures new.failures
    go (Err d) comes is = comes.failed (cc)
    go (Ok bytes) comes is = absurd (elim is [ inl bad ↦ let no = bad.0 in cc | inr memory ↦ cc ])

failed_from : (old mid new : Part) (said : Result DocStoreFooter StoreError) → ExtractsFooter old said mid → OpensFrom mid said (Err Read) new → HasRisen old.failures new.failures
failed_from old mid new (Err d) reads on =
    let same : d ≡ Read = let is = on.0 in cc in
    subst (λ (p : Part). HasRisen old.failures p.failures) (sym on.1) (footer_failed old mid (subst (λ (x : StoreError). ExtractsFooter old (Err x) mid) same reads))
failed_from old mid new (Ok f) reads on =
    let before = (extracts_same old mid (Ok f) reads).failures in
    let risen = index_failed mid new f on in
    let no_lower = risen.no_lower in
    record { no_lower = omega arith; risen = λ below. let more = risen.risen below in omega arith }

-- A read fails only where the file's count of failures rises.
pub opening_failed : (old new : Part) (e : StoreError) → e ≡ Read → Opens old (Err e) new → HasRisen old.failures new.failures
opening_failed old new e is o = failed_from old o.mid new o.footer o.reads (subst (λ (x : StoreError). OpensFrom o.mid o.footer (Err x) new) is o.goes_on)

-- ---- failures

index_steady : (mid new : Part) (f : DocStoreFooter) (found : Result Index StoreError) → ReadsIndex mid f found new → (found ≡ Err Read) ⊎ (new.failures ≡ mid.failures)
index_steady mid new f found r = (elim (nat_lt (length mid.content - 28) f.offset) as (λ y. nat_lt (length mid.content - 28) f.offset ≡ y → (found ≡ Err Read) ⊎ (new.failures ≡ mid.failures)) [
  | true ↦ λ t. inr (ap (λ (p : Part). p.failures) (r.past (ltb-true _ _ t)).1)
  | false ↦ λ t. let read = r.within (ltb-false _ _ t) in go read.0 read.1 read.2
]) refl
  where
    go : (came : Result (List ℕ) StoreError) → Comes mid f.offset (length mid.content - 28) came new → IndexFrom f came found → (found ≡ Err Read) ⊎ (new.failures ≡ mid.failures)
    go (Err d) comes is = elim comes.steady [ inl failed ↦ inl (is ∙ ap Err (let same : d ≡ Read = cc in same)) | inr stays ↦ inr stays ]
    go (Ok bytes) comes is = elim comes.steady [ inl failed ↦ absurd (cc) | inr stays ↦ inr stays ]

-- a footer that came left the count
footer_stays : (old mid : Part) (f : DocStoreFooter) → ExtractsFooter old (Ok f) mid → mid.failures ≡ old.failures
footer_stays old mid f r = elim (footer_steady old mid (Ok f) r) [ inl failed ↦ absurd (cc) | inr stays ↦ stays ]

steady_from : (old mid new : Part) (said : Result DocStoreFooter StoreError) (e : StoreError) → ExtractsFooter old said mid → OpensFrom mid said (Err e) new
    → (e ≡ Read) ⊎ (new.failures ≡ old.failures)
steady_from old mid new (Err d) e reads on =
    let same : e ≡ d = let is = on.0 in cc in
    elim (footer_steady old mid (Err d) reads) [
      | inl failed ↦ inl (same ∙ (let is : d ≡ Read = cc in is))
      | inr stays ↦ inr (ap (λ (p : Part). p.failures) on.1 ∙ stays)
    ]
steady_from old mid new (Ok f) e reads on = elim (index_steady mid new f (Err e) on) [
  | inl failed ↦ inl (let is : e ≡ Read = cc in is)
  | inr stays ↦ inr (stays ∙ footer_stays old mid f reads)
]

-- The count of failures stays where opening is refused for any other cause,
pub opening_steady : (old new : Part) (e : StoreError) → Opens old (Err e) new → (e ≡ Read) ⊎ (new.failures ≡ old.failures)
opening_steady old new e o = steady_from old o.mid new o.footer e o.reads o.goes_on

accepted_steady_from : (old mid new : Part) (said : Result DocStoreFooter StoreError) (found : DocStoreFooter × Index) → ExtractsFooter old said mid → OpensFrom mid said (Ok found) new
    → new.failures ≡ old.failures
accepted_steady_from old mid new (Err d) found reads on = absurd (let no = on.0 in cc)
accepted_steady_from old mid new (Ok f) found reads on = elim (index_steady mid new f (Ok found.1) on.1) [
  | inl failed ↦ absurd (cc)
  | inr stays ↦ stays ∙ footer_stays old mid f reads
]

-- and where the file is accepted.
pub accepted_steady : (old new : Part) (found : DocStoreFooter × Index) → Opens old (Ok found) new → new.failures ≡ old.failures
accepted_steady old new found o = accepted_steady_from old o.mid new o.footer found o.reads o.goes_on

-- ---- bytes

-- how many bytes reading the footer asks for
record AsksFooter (old mid : Part) : Type 0 where
  content : mid.content ≡ old.content
  most : mid.asked ≤ old.asked + 28
  long : 28 ≤ length old.content → mid.asked ≡ raised old.asked 28
  short : length old.content < 28 → mid.asked ≡ old.asked

asks_footer : (old mid : Part) (said : Result DocStoreFooter StoreError) → ExtractsFooter old said mid → AsksFooter old mid
asks_footer old mid said r = (elim (nat_lt (length old.content) 28) as (λ y. nat_lt (length old.content) 28 ≡ y → AsksFooter old mid) [
  | true ↦ λ t.
      let lt = ltb-true _ _ t in
      let same = ap (λ (p : Part). p.asked) (r.short lt).1 in
      record { content = (extracts_same old mid said r).content; most = omega (arith, same); long = λ le. absurd (omega (arith, le, lt)); short = λ _. same }
  | false ↦ λ t.
      let le = ltb-false _ _ t in
      let asked = (r.long le).1.once.asked in
      record { content = (extracts_same old mid said r).content; most = omega (arith, asked, le); long = λ _. omega (arith, asked, le); short = λ lt. absurd (omega (arith, le, lt)) }
]) refl

-- how many bytes reading the index asks for
record AsksIndex (mid new : Part) (offset : ℕ) : Type 0 where
  past : length mid.content - 28 < offset → new.asked ≡ mid.asked
  within : offset ≤ length mid.content - 28 → new.asked ≡ raised mid.asked (length mid.content - 28 - offset)

asks_index : (mid new : Part) (f : DocStoreFooter) (found : Result Index StoreError) → ReadsIndex mid f found new → AsksIndex mid new f.offset
asks_index mid new f found r = record {
  past = λ lt. ap (λ (p : Part). p.asked) (r.past lt).1;
  within = λ le. (r.within le).1.once.asked;
}

-- a file that is accepted, and one whose index is refused
index_asked : (old mid new : Part) (f : DocStoreFooter) (found : Result Index StoreError) → ExtractsFooter old (Ok f) mid → ReadsIndex mid f found new → new.asked ≤ old.asked + length old.content
index_asked old mid new f found reads on =
    let before = asks_footer old mid (Ok f) reads in
    let after = asks_index mid new f found on in
    let size : length mid.content ≡ length old.content = ap length before.content in
    elim (cases_lt (length old.content) 28) [
      | inl lt ↦ absurd (let no = (reads.short lt).0 in cc)
      | inr le ↦ elim (cases_lt (length mid.content - 28) f.offset) [
        | inl past ↦ omega (arith, after.past past, before.most, le)
        | inr within ↦ omega (arith, after.within within, before.most, le, size, within)
      ]
    ]

asked_from : (old mid new : Part) (said : Result DocStoreFooter StoreError) (e : StoreError) → ExtractsFooter old said mid → OpensFrom mid said (Err e) new
    → new.asked ≤ old.asked + length old.content
asked_from old mid new (Err d) e reads on =
    let before = asks_footer old mid (Err d) reads in
    let same = ap (λ (p : Part). p.asked) on.1 in
    elim (cases_lt (length old.content) 28) [
      | inl lt ↦ omega (arith, same, before.short lt)
      | inr le ↦ omega (arith, same, before.most, le)
    ]
asked_from old mid new (Ok f) e reads on =
    index_asked old mid new f (Err e) reads on

-- What is refused was asked for no more bytes than there are.
pub opening_asked : (old new : Part) (e : StoreError) → Opens old (Err e) new → new.asked ≤ old.asked + length old.content
opening_asked old new e o = asked_from old o.mid new o.footer e o.reads o.goes_on

-- Where a file is accepted its footer was read, and all that lies before the footer and after the data.
pub record AsksAll (old new : Part) (offset : ℕ) : Type 0 where
  pub asked : new.asked ≡ raised (raised old.asked 28) (length old.content - 28 - offset)
  pub within : offset ≤ length old.content - 28
  pub content : new.content ≡ old.content

asks_all : (old mid new : Part) (said : Result DocStoreFooter StoreError) (found : DocStoreFooter × Index) → ExtractsFooter old said mid → OpensFrom mid said (Ok found) new
    → AsksAll old new found.0.offset
asks_all old mid new (Err d) found reads on = absurd (let no = on.0 in cc)
asks_all old mid new (Ok f) found reads on =
    let before = asks_footer old mid (Ok f) reads in
    let after = asks_index mid new f (Ok found.1) on.1 in
    let size : length mid.content ≡ length old.content = ap length before.content in
    let offset : found.0.offset ≡ f.offset = ap (λ (g : DocStoreFooter). g.offset) on.0 in
    let content = (reads_same mid new f (Ok found.1) on.1).content ∙ before.content in
    elim (cases_lt (length old.content) 28) [
      | inl lt ↦ absurd (let no = (reads.short lt).0 in cc)
      | inr le ↦ elim (cases_lt (length mid.content - 28) f.offset) [
        | inl past ↦ absurd (let no = (on.1.past past).0 in cc)
        | inr within ↦
            let joined : raised mid.asked (length mid.content - 28 - f.offset) ≡ raised (raised old.asked 28) (length old.content - 28 - found.0.offset) =
            (λ i. raised (before.long le i) (size i - 28 - sym offset i)) in
            record { asked = after.within within ∙ joined; within = omega (arith, within, size, offset); content = content }
      ]
    ]

pub accepted_asked : (old new : Part) (found : DocStoreFooter × Index) → Opens old (Ok found) new → AsksAll old new found.0.offset
accepted_asked old new found o = asks_all old o.mid new o.footer found o.reads o.goes_on

-- whatever else it is refused for
pub accepted_most : (old new : Part) (found : DocStoreFooter × Index) → Opens old (Ok found) new → new.asked ≤ old.asked + length old.content
accepted_most old new found o =
    let all = accepted_asked old new found o in
    elim (cases_lt (length old.content) 28) [
      | inl lt ↦ absurd (short_refused old o.mid new o.footer found lt o.reads o.goes_on)
      | inr le ↦ omega (arith, all.asked, le)
    ]
  where
    short_refused : (old mid new : Part) (said : Result DocStoreFooter StoreError) (found : DocStoreFooter × Index) → length old.content < 28 → ExtractsFooter old said mid
        → OpensFrom mid said (Ok found) new → ⊥
    short_refused old mid new (Err d) found lt reads on = let no = on.0 in cc
    short_refused old mid new (Ok f) found lt reads on = let no = (reads.short lt).0 in cc

-- and what is kept of it
pub kept_asked : (old new : Part) (found : DocStoreFooter × Index) → Opens old (Ok found) new
    → new.asked ≡ raised (raised old.asked 28) (length old.content - 28 - length (slice_range new.content 0 found.0.offset))
kept_asked old new found o =
    let all = accepted_asked old new found o in
    let size : length new.content ≡ length old.content = ap length all.content in
    let len : length (slice_range new.content 0 found.0.offset) ≡ found.0.offset =
    length-slice new.content 0 found.0.offset (omega (arith, size, all.within)) ∙ minus_zero found.0.offset in
    all.asked ∙ ap (λ (n : ℕ). raised (raised old.asked 28) (length old.content - 28 - n)) (sym len)
  where
    minus_zero : (n : ℕ) → n - 0 ≡ n
    minus_zero n = omega arith
