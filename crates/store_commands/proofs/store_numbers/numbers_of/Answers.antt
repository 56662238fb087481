use Rattle.std.proofs.Common.{◌≡◌, ℕ, ◌-◌, ◌/◌, List, length, get_or, unwrap_or, vec_len, sym, ap, ◌∙◌, arith}
use Rattle.std.proofs.lemmas.Option.{unwrap_or-slice_get}
use Rattle.std.proofs.lemmas.List.Sorted.{IsNonDecreasingBy-from_sort, length_permutation}
use Rattle.layered_index.specs.Layers.{digit_count}
use Rattle.store_base.specs.Counts.{raised}
use Rattle.store_format.specs.Footer.{version_number}
use Rattle.store_commands.proofs.store_numbers.numbers_of.Goals as goal

pub returns : goal.returns
returns g c =
    let items = c.sort_unstable.new.self.items in
    let size = length_permutation c.args.sizes.items items c.sort_unstable.ensures.permutation in
    let count : vec_len c.sort_unstable.new.self ≡ length items = sym c.deref.ensures.len ∙ ap length c.deref.ensures.value in
    record {
      version = c.number.ensures ∙ ap version_number c.version.ensures;
      period = c.period.ensures.period;
      documents = c.num_docs.ensures.count;
      blocks = c.len.ensures ∙ count ∙ size;
      layers = c.layers_over.ensures ∙ ap (λ (p : ℕ). digit_count p c.len-2.result) c.period-2.ensures.period ∙ ap (digit_count c.args.reader.now.period) (c.len-2.ensures ∙ count ∙ size);
      data_len = c.data_usage.ensures ∙ ap (λ (p : ℕ × ℕ). p.0) c.space_usage-usage.ensures;
      index_len = c.offsets_usage.ensures ∙ ap (λ (p : ℕ × ℕ). p.1) c.space_usage-usage.ensures;
      document_len =
          let data_is = c.data_usage-2.ensures ∙ ap (λ (p : ℕ × ℕ). p.0) c.space_usage-usage.ensures in
          let documents_are = c.num_docs-2.ensures.count in
          let blocks_are = c.len-3.ensures ∙ count ∙ size in
          omega (arith, c.document_bytes.ensures);
      file_len = c.saturating_add.ensures ∙ ap (λ (n : ℕ). raised n 28) (c.total.ensures ∙ ap (λ (p : ℕ × ℕ). raised p.0 p.1) c.space_usage-usage.ensures);
      extremes = record {
        in_order = items;
        same = c.sort_unstable.ensures.permutation;
        rising = IsNonDecreasingBy-from_sort (λ (x : ℕ). x) items c.sort_unstable.ensures.sorted;
        first = c.unwrap_or.ensures ∙ ap (λ o. unwrap_or o 0) (c.copied.ensures ∙ c.first.ensures.value) ∙ unwrap_or-slice_get c.deref.result.now 0 0
            ∙ ap (λ (xs : List ℕ). get_or xs 0 0) c.deref.ensures.value;
        middle = c.unwrap_or-2.ensures ∙ ap (λ o. unwrap_or o 0) c.copied-2.ensures ∙ c.get.ensures.lookup.4 (omega arith) 0
            ∙ ap (λ (xs : List ℕ). get_or xs (c.len-middle.result / 2) 0) c.deref-2.ensures.value ∙ ap (λ (n : ℕ). get_or items (n / 2) 0) (c.len-middle.ensures ∙ count);
        last = c.unwrap_or-3.ensures ∙ ap (λ o. unwrap_or o 0) (c.copied-3.ensures ∙ c.last.ensures.value) ∙ unwrap_or-slice_get c.deref-3.result.now (length c.deref-3.result.now - 1) 0
            ∙ ap (λ (xs : List ℕ). get_or xs (length xs - 1) 0) c.deref-3.ensures.value;
      };
    }
