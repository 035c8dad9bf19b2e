-- What a state area promises, one value. Assumes nothing.
use Prim.Native.Nat.{ℕ, ◌*◌, ◌^◌, ◌≤◌, ◌<◌}
use mathlib.Core.Path.{◌≡◌, refl, ap, ◌∙◌}
use mathlib.Core.Bool.{Bool, true, false, cond}
use mathlib.Core.List.{List}
use native.Mathlib.Omega.{arith}
use lib.Dec.{eqb}
use lib.ListN.{length}
use borrow.Author.Tests.{le-leb, leb-true, eq-eqb}
use Rattle.limits.specs.Limits.{page_taken, arena_limit_for, each_size}
use Rattle.numbers.specs.LittleEndian.{le_number, le_bytes, Bytes}
use Rattle.numbers.proofs.Tests.{both_true}
use Rattle.spans.specs.Span.{read_span, overwrite}
use Rattle.spans.proofs.Laws.{length-overwrite, read-after}
use Rattle.memory_arena.specs.declared.Arena.{Arena}
use Rattle.memory_arena.specs.Calls.{sensible}
use Rattle.memory_arena.proofs.Laws.{sensible_facts, standing_facts}
use Rattle.store_state.specs.declared.State.{State}
use Rattle.store_look.specs.Look.{Lent, checked}
use Rattle.store_state.proofs.Whole.{whole_facts, taken_facts}
use Rattle.state_area.specs.Area.{area_size, number_at, sensible_area, state_at, four_bytes, area_of, Fits}
use Rattle.state_area.specs.Promises.{Promises}
use Rattle.state_area.proofs.Back.{loaded_saved}
use Rattle.state_area.proofs.Laws.{length_area, span_back, number_back, number_fits}

-- the end, as a number and back
end_back : (b : Bool) → eqb (cond b 1 0) 1 ≡ b
end_back true = refl
end_back false = refl

end-small : (b : Bool) → cond b 1 0 ≤ 1
end-small true = omega arith
end-small false = omega arith

saved_loaded : (st : State) (area : List ℕ) → Fits st → area_size ≤ length area
    → state_at (overwrite 0 (area_of st) area) ≡ st
unfolding state_at area_of four_bytes le_bytes read_span
saved_loaded st area f h =
    let back = number_back st area h in
    let size = back 48 st.key_arena.size (omega arith) refl f.size_fits in
    let small = end-small st.back in λ i. record {
      seed = back 4 st.seed (omega arith) refl f.seed_fits i;
      words = back 16 st.words (omega arith) refl f.words_fit i;
      key_bytes = back 8 st.key_bytes (omega arith) refl f.key_bytes_fit i;
      list_bytes = back 12 st.list_bytes (omega arith) refl f.list_bytes_fit i;
      buckets = back 20 st.buckets (omega arith) refl f.buckets_fit i;
      back = (ap (λ (n : ℕ). eqb n 1) (back 24 (cond st.back 1 0) (omega arith) refl (omega arith))
          ∙ end_back st.back) i;
      keys = back 28 st.keys (omega arith) refl f.keys_fit i;
      key_arena = record {
        page = back 32 st.key_arena.page (omega arith) refl f.key_page_fits i;
        used = back 36 st.key_arena.used (omega arith) refl f.key_used_fits i;
        size = size i;
      };
      list_arena = record {
        page = back 40 st.list_arena.page (omega arith) refl f.list_page_fits i;
        used = back 44 st.list_arena.used (omega arith) refl f.list_used_fits i;
        size = (size ∙ f.one_size) i;
      };
    }

saved_sensible : (st : State) (area : List ℕ) → area_size ≤ length area
    → sensible_area (overwrite 0 (area_of st) area) ≡ true
unfolding sensible_area area_of four_bytes le_bytes le_number read_span
saved_sensible st area h =
    let back = span_back st area h in
    let small = end-small st.back in
    let n24 = number_back st area h 24 (cond st.back 1 0) (omega arith) refl (omega arith) in
    let m : List ℕ = overwrite 0 (area_of st) area in
    let long : area_size ≤ length m = omega (arith, length-overwrite 0 (area_of st) area) in
    let ends : number_at 4 24 m ≤ 1 = omega (arith, n24) in
    both_true _ _ (le-leb _ _ long)
    (both_true _ _ (both_true _ _ (both_true _ _
    (eq-eqb _ _ (ap le_number (back 0 4 (omega arith))))
    (le-leb _ _ ends))
    (eq-eqb _ _ (ap le_number (back 52 8 (omega arith)))))
    (eq-eqb _ _ (ap le_number (back 60 4 (omega arith)))))

-- the numbers of an arena, of any page size
Small : ℕ → Type 0
Small s = (page len : ℕ) → page * s < len → len ≤ arena_limit_for s → (len < 2 ^ 32) × ((page < 2 ^ 32) × (s < 2 ^ 32))

small : (s : ℕ) → page_taken s ≡ true → Small s
unfolding Small
small =
    each_size Small (λ page len x l. (omega arith, (omega arith, omega arith)))
    (λ page len x l. (omega arith, (omega arith, omega arith)))
    (λ page len x l. (omega arith, (omega arith, omega arith)))
    (λ page len x l. (omega arith, (omega arith, omega arith)))
    (λ page len x l. (omega arith, (omega arith, omega arith)))

record Numbers (a : Arena) (len : ℕ) : Type 0 where
  length-fits : len < 2 ^ 32
  page_fits : a.page < 2 ^ 32
  used-fits : a.used < 2 ^ 32
  size_fits : a.size < 2 ^ 32

arena_fits : (a : Arena) (len : ℕ) → sensible a len ≡ true → Numbers a len
unfolding Small
arena_fits a len e =
    let s = sensible_facts a len e in
    let t = standing_facts a len s.stands in
    let n = small a.size s.sized a.page len t.exists (leb-true len (arena_limit_for a.size) s.short) in
    record {
      length-fits = n.0;
      page_fits = n.1.0;
      used-fits = omega (arith, t.in_page, n.1.1);
      size_fits = n.1.1;
    }

whole-fits : (st : State) (m : Lent) → checked st m ≡ true → st.seed < 2 ^ 32 → Fits st
whole-fits st m e s =
    let w = whole_facts st (length m.table) (length m.keys) (length m.lists) e in
    let t = taken_facts (length m.table) w.taken in
    let k = arena_fits st.key_arena (length m.keys) w.key_arena in
    let l = arena_fits st.list_arena (length m.lists) w.list_arena in record {
      seed_fits = s;
      words_fit = omega (arith, w.words_is, t.1);
      key_bytes_fit = omega (arith, w.key_bytes_is, k.length-fits);
      list_bytes_fit = omega (arith, w.list_bytes_is, l.length-fits);
      buckets_fit = omega (arith, w.buckets_le, t.1);
      keys_fit = omega (arith, w.keys_le, w.buckets_le, t.1);
      key_page_fits = k.page_fits;
      key_used_fits = k.used-fits;
      list_page_fits = l.page_fits;
      list_used_fits = l.used-fits;
      size_fits = k.size_fits;
      one_size = w.sizes_are;
    }

held_fits : (area : List ℕ) → Bytes area → area_size ≤ length area → Fits (state_at area)
unfolding state_at
held_fits area b h =
    let n = number_fits area b in record {
      seed_fits = n 4 (omega arith);
      words_fit = n 16 (omega arith);
      key_bytes_fit = n 8 (omega arith);
      list_bytes_fit = n 12 (omega arith);
      buckets_fit = n 20 (omega arith);
      keys_fit = n 28 (omega arith);
      key_page_fits = n 32 (omega arith);
      key_used_fits = n 36 (omega arith);
      list_page_fits = n 40 (omega arith);
      list_used_fits = n 44 (omega arith);
      size_fits = n 48 (omega arith);
      one_size = refl;
    }

pub promises : Promises
promises = record {
  saved_loaded = saved_loaded;
  saved_sensible = saved_sensible;
  loaded_saved = λ area b e. loaded_saved area b e;
  whole-fits = whole-fits;
  held_fits = held_fits;
  saved_behind = λ st area p n h. read-after p n 0 (area_of st) area (omega (arith, length_area st));
}
