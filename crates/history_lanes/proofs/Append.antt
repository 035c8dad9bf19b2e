-- An append to a lane: bytes written on in the newest block, a block taken, and any number of both. Assumes nothing.
use Prim.Native.Nat.{ℕ, ◌+◌, ◌-◌, ◌≤◌, ◌<◌}
use mathlib.Core.Path.{◌≡◌, refl, sym, ap, ◌∙◌, subst}
use mathlib.Core.Logic.{◌⊎◌, inl, inr}
use mathlib.Core.Bool.{Bool, true, false, cond}
use mathlib.Core.Option.{Option, none, some}
use mathlib.Core.List.{List, [], ◌∷◌, ◌++◌, append_assoc, append-nil}
use native.Mathlib.Nat.{le_refl, le_trans, sub_self, sub-zero}
use native.Mathlib.Omega.{arith}
use lib.Dec.{eqb}
use lib.ListN.{length}
use borrow.Author.Tests.{eq-eqb, ne_eqb, eqb-true, eqb-false}
use Rattle.limits.specs.Limits.{arena_limit, fresh_number, link_size}
use Rattle.numbers.specs.LittleEndian.{le_bytes}
use Rattle.numbers.proofs.Laws.{length_le}
use Rattle.spans.specs.Span.{read_span, overwrite, Apart}
use Rattle.spans.proofs.Laws.{length-overwrite, read_before, read-apart, read_extended, span_none, number_back}
use Rattle.memory_arena.specs.declared.Arena.{Arena}
use Rattle.memory_arena.specs.Address.{place_of}
use Rattle.memory_arena.specs.Pages.{MaybeRoom, room_at, standing, room_for}
use Rattle.memory_arena.proofs.Laws.{place_of_lem, standing_facts, standing_made, Placed, room_size, room_facts}
use Rattle.expull_header.specs.declared.Header.{Header}
use Rattle.expull_header.specs.Header.{block_size, fresh}
use Rattle.expull_header.proofs.Laws.{size_pos}
use Rattle.expull_append.specs.Append.{Writing, writing, next_wide, head_with, linked, header_with, with_block, on_room}
use Rattle.expull_append.specs.Append.{take_block, ready, moved, filled, and_then, appended}
use Rattle.history_lanes.specs.Lane.{size_on, wide_on, full_content, content, Links, Below, Paged, Tip, Clear}
use Rattle.history_lanes.specs.Lane.{TipApart, TipClear, used_end, Lane, After}
use Rattle.history_lanes.proofs.Blocks.{apart-within, apart_sym, clear_within, clear_above, below_up}
use Rattle.history_lanes.proofs.Blocks.{full-kept, link_to_kept, links-kept}
use Rattle.std.specs.Prelude.{Some, None}

-- a lane between the taking of a block and its first byte: the newest block may be empty
record Loose (m : List ℕ) (a : Arena) (h : Header) (ks : List ℕ) : Type 0 where
  number : h.number ≡ length ks + fresh_number
  links : Links m ks
  below : Below (used_end a) ks
  paged : Paged a.size ks
  tip : Tip h ks
  stands : standing a (length m) ≡ true
  short : length m ≤ arena_limit

loosened : (m : List ℕ) (a : Arena) (h : Header) (ks : List ℕ) → Lane m a h ks → Loose m a h ks
loosened m a h ks L = record {
  number = L.number;
  links = L.links;
  below = L.below;
  paged = L.paged;
  tip = L.tip;
  stands = L.stands;
  short = L.short;
}

-- the next byte's place moves on in its block, or lies in a block above the used part
abbrev OnOrNew : ℕ → Header → Header → Type 0
OnOrNew u h h' = ((h.tail ≤ h'.tail) × (h'.tail + h'.remaining ≡ h.tail + h.remaining)) ⊎ (u ≤ h'.tail)

moves_join : (u u' : ℕ) (h h' h'' : Header) → u ≤ u' → OnOrNew u h h' → OnOrNew u' h' h'' → OnOrNew u h h''
moves_join u u' h h' h'' g (inl x) (inl y) = inl (le_trans x.0 y.0, y.1 ∙ x.1)
moves_join u u' h h' h'' g (inr x) (inl y) = inr (le_trans x y.0)
moves_join u u' h h' h'' g x (inr y) = inr (le_trans g y)

-- what a piece of an append does, besides the lane it leaves
record Step (m : List ℕ) (a : Arena) (h : Header) (ks bs m' : List ℕ) (a' : Arena) (h' : Header)
    (ks' : List ℕ) : Type 0 where
  bytes : content m' ks' h'.remaining ≡ content m ks h.remaining ++ bs
  rest : (q n : ℕ) → q + n ≤ used_end a → Apart h.tail (h.remaining + link_size) q n
      → read_span q n m' ≡ read_span q n m
  rest-on : (q n : ℕ) → q + n ≤ used_end a → Apart h.tail (h.remaining + link_size) q n
      → Apart h'.tail (h'.remaining + link_size) q n
  outside : (q n : ℕ) → Clear q n ks' → read_span q n m' ≡ read_span q n m
  unfilled : (q n : ℕ) → h'.tail ≤ q → q + n ≤ h'.tail + (h'.remaining + link_size) → read_span q n m' ≡ read_span q n m
  above : (q n : ℕ) → used_end a' ≤ q → read_span q n m' ≡ read_span q n m
  moves : OnOrNew (used_end a) h h'
  tip : (q n : ℕ) → q + n ≤ used_end a → TipApart q n ks → TipApart q n ks'
  fwd : (js : List ℕ) → Below (used_end a) js → TipClear ks js → TipClear ks' js
  back : (q n : ℕ) → q + n ≤ used_end a → Clear q n ks → Clear q n ks'
  older : (q n : ℕ) → Clear q n ks' → Clear q n ks
  newer : List ℕ
  grown : ks' ≡ newer ++ ks
  grows : used_end a ≤ used_end a'
  size : a'.size ≡ a.size
  len : length m' ≡ length m

step_none : (m : List ℕ) (a : Arena) (h : Header) (ks : List ℕ) → Step m a h ks [] m a h ks
step_none m a h ks = record {
  bytes = sym (append-nil (content m ks h.remaining));
  rest = λ q n u t. refl;
  rest-on = λ q n u t. t;
  outside = λ q n c. refl;
  unfilled = λ q n l u. refl;
  above = λ q n l. refl;
  moves = inl (le_refl h.tail, refl);
  tip = λ q n u t. t;
  fwd = λ js b t. t;
  back = λ q n u c. c;
  older = λ q n c. c;
  newer = [];
  grown = refl;
  grows = le_refl (used_end a);
  size = refl;
  len = refl;
}

step_join : (m : List ℕ) (a : Arena) (h : Header) (ks bs m' : List ℕ) (a' : Arena) (h' : Header) (ks' cs m'' : List ℕ)
    (a'' : Arena) (h'' : Header) (ks'' : List ℕ)
    → Step m a h ks bs m' a' h' ks' → Step m' a' h' ks' cs m'' a'' h'' ks'' → Step m a h ks (bs ++ cs) m'' a'' h'' ks''
step_join m a h ks bs m' a' h' ks' cs m'' a'' h'' ks'' A B = record {
  bytes = B.bytes ∙ ap (λ (l : List ℕ). l ++ cs) A.bytes ∙ append_assoc (content m ks h.remaining) bs cs;
  rest = λ q n u t. B.rest q n (le_trans u A.grows) (A.rest-on q n u t) ∙ A.rest q n u t;
  rest-on = λ q n u t. B.rest-on q n (le_trans u A.grows) (A.rest-on q n u t);
  outside = λ q n c. B.outside q n c ∙ A.outside q n (B.older q n c);
  unfilled = λ q n l u. B.unfilled q n l u ∙ opened q n l u B.moves;
  above = λ q n l. B.above q n l ∙ A.above q n (le_trans B.grows l);
  moves = moves_join (used_end a) (used_end a') h h' h'' A.grows A.moves B.moves;
  tip = λ q n u t. B.tip q n (le_trans u A.grows) (A.tip q n u t);
  fwd = λ js b t. B.fwd js (below_up (used_end a) (used_end a') js A.grows b) (A.fwd js b t);
  back = λ q n u c. B.back q n (le_trans u A.grows) (A.back q n u c);
  older = λ q n c. A.older q n (B.older q n c);
  newer = B.newer ++ A.newer;
  grown = B.grown ∙ ap (λ (l : List ℕ). B.newer ++ l) A.grown ∙ sym (append_assoc B.newer A.newer ks);
  grows = le_trans A.grows B.grows;
  size = B.size ∙ A.size;
  len = B.len ∙ A.len;
}
  where
    opened : (q n : ℕ) → h''.tail ≤ q → q + n ≤ h''.tail + (h''.remaining + link_size) → OnOrNew (used_end a') h' h''
        → read_span q n m' ≡ read_span q n m
    opened q n l u (inl x) = A.unfilled q n (le_trans x.0 l) (omega (arith, x.1))
    opened q n l u (inr x) = A.above q n (le_trans x l)

-- ---- bytes into the newest block

module _ (cs m : List ℕ) (a : Arena) (h : Header) (x : ℕ) (ks : List ℕ) (L : Loose m a h (x ∷ ks))
    (f : length cs ≤ h.remaining) where
  fill_clear : Clear h.tail (length cs) ks
  fill_clear =
      clear_within x (wide_on ks) h.tail (length cs) ks (omega (arith, L.tip)) (omega (arith, L.tip))
      (clear_above x x (wide_on ks) ks (le_refl x) L.tip.3.0)

  fill_lane : Loose (overwrite h.tail cs m) a (moved (length cs) h) (x ∷ ks)
  fill_lane = record {
    number = L.number;
    links = (
      link_to_kept h.tail cs m ks x fill_clear L.links.0,
      links-kept h.tail cs m ks fill_clear L.links.1,
    );
    below = L.below;
    paged = L.paged;
    tip = (L.tip.0, omega (arith, L.tip), omega (arith, L.tip), L.tip.3);
    stands = rw length-overwrite L.stands;
    short = rw length-overwrite L.short;
  }

  fill_bytes : content (overwrite h.tail cs m) (x ∷ ks) (h.remaining - length cs)
      ≡ content m (x ∷ ks) h.remaining ++ cs
  fill_bytes =
      let i : used_end a ≤ length m = (standing_facts a (length m) L.stands).in_memory in
      let e : h.tail ≡ x + (size_on ks - h.remaining) = omega (arith, L.tip) in
      let d : size_on ks - (h.remaining - length cs) ≡ (size_on ks - h.remaining) + length cs = omega (arith, L.tip) in
      rw (
        full-kept h.tail cs m ks fill_clear,
        d,
        e,
        read_extended x (size_on ks - h.remaining) cs m (omega (arith, L.tip, L.below)),
      )
      (sym (append_assoc (full_content m ks) (read_span x (size_on ks - h.remaining) m) cs))

  fill_step : Step m a h (x ∷ ks) cs (overwrite h.tail cs m) a (moved (length cs) h) (x ∷ ks)
  fill_step = record {
    bytes = fill_bytes;
    rest = λ q n u t. read-apart q n h.tail cs m
        (apart-within h.tail (h.remaining + link_size) q n h.tail (length cs) q n (le_refl h.tail)
        (omega arith) (le_refl q) (le_refl (q + n)) t);
    rest-on =
        λ q n u t. apart-within h.tail (h.remaining + link_size) q n (h.tail + length cs)
        (h.remaining - length cs + link_size) q n
        (omega arith) (omega arith) (le_refl q) (le_refl (q + n)) t;
    outside = λ q n c. read-apart q n h.tail cs m
        (apart-within x (wide_on ks) q n h.tail (length cs) q n (omega (arith, L.tip)) (omega (arith, L.tip))
        (le_refl q) (le_refl (q + n))
        (apart_sym q n x (wide_on ks) c.0));
    unfilled = λ q n l u. read-apart q n h.tail cs m (inl l);
    above = λ q n l. read-apart q n h.tail cs m (inl (omega (arith, L.tip, L.below.0)));
    moves = inl (omega arith, omega arith);
    tip = λ q n u t. t;
    fwd = λ js b t. t;
    back = λ q n u c. c;
    older = λ q n c. c;
    newer = [];
    grown = refl;
    grows = le_refl (used_end a);
    size = refl;
    len = length-overwrite h.tail cs m;
  }

-- ---- a block taken at v

-- what becomes of the header and of the memory, by the blocks there are
abbrev head_on : List ℕ → ℕ → Header → ℕ
head_on [] v h = v
head_on (x ∷ ks) v h = h.head

abbrev header_on : List ℕ → ℕ → Header → Header
header_on ks v h = record { number = length ks + 3; head = head_on ks v h; tail = v; remaining = size_on ks }

abbrev memory_on : List ℕ → ℕ → Header → List ℕ → List ℕ
memory_on [] v h m = m
memory_on (x ∷ ks) v h m = overwrite h.tail (le_bytes link_size v) m

header-on : (ks : List ℕ) (v : ℕ) (h : Header) → h.number ≡ length ks + fresh_number → header_with v h ≡ header_on ks v h
unfolding header_with
header-on ks v h e =
    let p : h.number + 1 ≡ length ks + 3 = omega arith in
    λ i. record { number = p i; head = go ks e i; tail = v; remaining = block_size (p i) }
  where
    go : (ks : List ℕ) → h.number ≡ length ks + fresh_number → head_with v h ≡ head_on ks v h
    go [] e = rw (eq-eqb h.number fresh_number e)
    go (x ∷ ks) e = rw (ne_eqb h.number fresh_number (λ z. omega arith))

memory_on_lem : (ks : List ℕ) (v : ℕ) (h : Header) (m : List ℕ) → h.number ≡ length ks + fresh_number
    → linked v h m ≡ memory_on ks v h m
unfolding linked
memory_on_lem [] v h m e = rw (eq-eqb h.number fresh_number e)
memory_on_lem (x ∷ ks) v h m e = rw (ne_eqb h.number fresh_number (λ z. omega arith))

-- where a block may be taken: above the used part, on one page, and the used part then ends with it
record Spot (m : List ℕ) (a : Arena) (ks : List ℕ) (v : ℕ) (a' : Arena) : Type 0 where
  above : used_end a ≤ v
  end : used_end a' ≡ v + wide_on ks
  size : a'.size ≡ a.size
  on_page : place_of a'.size v + wide_on ks ≤ a'.size
  stands : standing a' (length m) ≡ true

take-lane : (m : List ℕ) (a : Arena) (h : Header) (ks : List ℕ) (v : ℕ) (a' : Arena) → Loose m a h ks → h.remaining ≡ 0
    → Spot m a ks v a'
    → Loose (memory_on ks v h m) a' (header_on ks v h) (v ∷ ks)
take-lane m a h [] v a' L z S = record {
  number = refl;
  links = (tt, tt);
  below = (omega (arith, S.end), tt);
  paged = (S.on_page, tt);
  tip = (refl, le_refl (size_on []), refl, (tt, tt));
  stands = S.stands;
  short = L.short;
}
take-lane m a h (x ∷ ks) v a' L z S =
    let i : used_end a ≤ length m = (standing_facts a (length m) L.stands).in_memory in
    let j : used_end a' ≤ length m = (standing_facts a' (length m) S.stands).in_memory in
    let e : h.tail ≡ x + size_on ks = omega (arith, L.tip) in
    let c : Clear h.tail (length (le_bytes link_size v)) ks =
    clear_above x h.tail (length (le_bytes link_size v)) ks (omega arith) L.tip.3.0 in
    record {
      number = omega arith;
      links = (
        rw e (number_back link_size (x + size_on ks) v m (omega (arith, L.below.0)) (omega (arith, S.end, L.short))),
        (
          link_to_kept h.tail (le_bytes link_size v) m ks x c L.links.0,
          links-kept h.tail (le_bytes link_size v) m ks c L.links.1,
        ),
      );
      below = (
        omega (arith, S.end),
        below_up (used_end a) (used_end a') (x ∷ ks) (omega (arith, S.above, S.end)) L.below,
      );
      paged = (S.on_page, subst (λ (s : ℕ). Paged s (x ∷ ks)) (sym S.size) L.paged);
      tip = (
        L.tip.0,
        le_refl (size_on (x ∷ ks)),
        refl,
        (below_up (used_end a) v (x ∷ ks) S.above L.below, L.tip.3),
      );
      stands = rw length-overwrite S.stands;
      short = rw length-overwrite L.short;
    }

take_step : (m : List ℕ) (a : Arena) (h : Header) (ks : List ℕ) (v : ℕ) (a' : Arena) → Loose m a h ks → h.remaining ≡ 0
    → Spot m a ks v a'
    → Step m a h ks [] (memory_on ks v h m) a' (header_on ks v h) (v ∷ ks)
take_step m a h [] v a' L z S = record {
  bytes = rw (sub_self, span_none);
  rest = λ q n u t. refl;
  rest-on = λ q n u t. inr (le_trans u S.above);
  outside = λ q n c. refl;
  unfilled = λ q n l u. refl;
  above = λ q n l. refl;
  moves = inr S.above;
  tip = λ q n u t. inr (le_trans u S.above);
  fwd = λ js b t. clear_above (used_end a) v (wide_on []) js S.above b;
  back = λ q n u c. (inl (le_trans u S.above), tt);
  older = λ q n c. tt;
  newer = v ∷ [];
  grown = refl;
  grows = omega (arith, S.above, S.end);
  size = S.size;
  len = refl;
}
take_step m a h (x ∷ ks) v a' L z S =
    let l : length (le_bytes link_size v) ≡ link_size = length_le link_size v in
    let e : h.tail ≡ x + size_on ks = omega (arith, L.tip) in
    let c : Clear h.tail (length (le_bytes link_size v)) ks =
    clear_above x h.tail (length (le_bytes link_size v)) ks (omega arith) L.tip.3.0 in
    record {
      bytes =
          rw (
            sub_self,
            span_none,
            z,
            sub-zero,
            full-kept h.tail (le_bytes link_size v) m ks c,
            read_before x (size_on ks) h.tail (le_bytes link_size v) m (omega arith),
          );
      rest = λ q n u t. read-apart q n h.tail (le_bytes link_size v) m
          (apart-within h.tail (h.remaining + link_size) q n h.tail (length (le_bytes link_size v)) q n
          (le_refl h.tail) (omega arith) (le_refl q) (le_refl (q + n)) t);
      rest-on = λ q n u t. inr (le_trans u S.above);
      outside = λ q n c. read-apart q n h.tail (le_bytes link_size v) m
          (apart-within x (wide_on ks) q n h.tail (length (le_bytes link_size v)) q n (omega arith) (omega arith)
          (le_refl q) (le_refl (q + n))
          (apart_sym q n x (wide_on ks) c.1.0));
      unfilled = λ q n o u.
          read-apart q n h.tail (le_bytes link_size v) m (inl (omega (arith, S.above, L.below.0)));
      above = λ q n u.
          read-apart q n h.tail (le_bytes link_size v) m (inl (omega (arith, S.above, S.end, L.below.0)));
      moves = inr S.above;
      tip = λ q n u t. inr (le_trans u S.above);
      fwd = λ js b t. clear_above (used_end a) v (wide_on (x ∷ ks)) js S.above b;
      back = λ q n u c. (inl (le_trans u S.above), c);
      older = λ q n c. c.1;
      newer = v ∷ [];
      grown = refl;
      grows = omega (arith, S.above, S.end);
      size = S.size;
      len = length-overwrite h.tail (le_bytes link_size v) m;
    }

spot-at : (m : List ℕ) (a : Arena) (h : Header) (ks : List ℕ) (v : ℕ) (a' : Arena) → Loose m a h ks
    → room_for a (length m) (next_wide h) ≡ room_at v a'
    → Spot m a ks v a'
spot-at m a h ks v a' L e =
    let w : next_wide h ≡ wide_on ks =
    ap (λ (b : ℕ). block_size b + link_size) (let p : h.number + 1 ≡ length ks + 3 = omega (arith, L.number) in
    p) in
    let f = ap (room_for a (length m)) (sym w) ∙ e in
    let R : Placed a (length m) (wide_on ks) v a' = room_facts a (length m) (wide_on ks) v a' (omega arith) L.stands f in
    record {
      above = R.above;
      end = R.end;
      size = room_size a (length m) (wide_on ks) v a' f;
      on_page =
          rw (
            R.page_on,
            place_of_lem a'.size a'.page (a'.used - wide_on ks)
                (omega (arith, R.wide, R.after.in_page)),
          )
          (omega (arith, R.wide, R.after.in_page));
      stands = standing_made a' (length m) R.after;
    }

-- ---- one byte

-- a lane at work
abbrev LaneOf : Writing → List ℕ → Type 0
LaneOf w ks = Lane w.memory w.arena w.header ks

abbrev LooseOf : Writing → List ℕ → Type 0
LooseOf w ks = Loose w.memory w.arena w.header ks

abbrev StepOf : Writing → List ℕ → List ℕ → Writing → List ℕ → Type 0
StepOf w ks bs w' ks' = Step w.memory w.arena w.header ks bs w'.memory w'.arena w'.header ks'

take-with : (w : Writing) (ks : List ℕ) (v : ℕ) (a' : Arena) → LooseOf w ks → w.header.remaining ≡ 0
    → room_for w.arena (length w.memory) (next_wide w.header) ≡ room_at v a'
    → LooseOf (with_block v a' w) (v ∷ ks) × StepOf w ks [] (with_block v a' w) (v ∷ ks)
    × (0 < (header_with v w.header).remaining)
take-with w ks v a' L z e =
    let S = spot-at w.memory w.arena w.header ks v a' L e in
    let p : with_block v a' w ≡ writing (memory_on ks v w.header w.memory) a' (header_on ks v w.header) =
    λ i. writing (memory_on_lem ks v w.header w.memory L.number i) a' (header-on ks v w.header L.number i) in
    subst (λ (w' : Writing). LooseOf w' (v ∷ ks) × StepOf w ks [] w' (v ∷ ks) × (0 < w'.header.remaining)) (sym p) (
      take-lane w.memory w.arena w.header ks v a' L z S,
      take_step w.memory w.arena w.header ks v a' L z S,
      size_pos (length ks + 3),
    )

-- where a byte may be written at once
record Open (w : Writing) (ks : List ℕ) (v : Writing) : Type 0 where
  newest : ℕ
  others : List ℕ
  lane : LooseOf v (newest ∷ others)
  step : StepOf w ks [] v (newest ∷ others)
  waits : 0 < v.header.remaining

same_some : (w v : Writing) → some w ≡ some v → w ≡ v
same_some w v e = cc

ready-open : (w : Writing) (ks : List ℕ) → LooseOf w ks → (v : Writing) → ready w ≡ some v → Open w ks v
unfolding ready
ready-open w ks L v e = go (eqb w.header.remaining 0) refl e
  where
    taken : (r : MaybeRoom) → room_for w.arena (length w.memory) (next_wide w.header) ≡ r
        → w.header.remaining ≡ 0
        → on_room r w ≡ some v → Open w ks v
    taken (Some r) p z e =
        let T = take-with w ks r.at r.after L z p in
        subst (λ (v : Writing). Open w ks v) (same_some (with_block r.at r.after w) v e)
        (record { newest = r.at; others = ks; lane = T.0; step = T.1; waits = T.2 })
    taken None p z e = let c : ◌≡◌ {A = ℕ} 0 1 = cc in absurd (omega arith)

    stays : (ks : List ℕ) → LooseOf w ks → (w.header.remaining ≡ 0 → ⊥) → Open w ks w
    stays [] L z = absurd (z L.tip.2)
    stays (x ∷ ks) L z = record {
      newest = x;
      others = ks;
      lane = L;
      step = step_none w.memory w.arena w.header (x ∷ ks);
      waits = omega arith;
    }

    go : (t : Bool) → eqb w.header.remaining 0 ≡ t → cond t (take_block w) (some w) ≡ some v → Open w ks v
    go true p e =
        taken (room_for w.arena (length w.memory) (next_wide w.header)) refl
        (eqb-true w.header.remaining 0 p) e
    go false p e =
        subst (λ (v : Writing). Open w ks v) (same_some w v e) (stays ks L (eqb-false w.header.remaining 0 p))

byte : (b : ℕ) (w : Writing) (ks : List ℕ) → LaneOf w ks → (v : Writing) → ready w ≡ some v
    → (ks' : List ℕ) × LaneOf (filled (b ∷ []) v) ks' × StepOf w ks (b ∷ []) (filled (b ∷ []) v) ks'
unfolding filled
byte b w ks L v e =
    let O = ready-open w ks (loosened w.memory w.arena w.header ks L) v e in
    let F = fill_lane (b ∷ []) v.memory v.arena v.header O.newest O.others O.lane O.waits in
    let S = fill_step (b ∷ []) v.memory v.arena v.header O.newest O.others O.lane O.waits in
    let z = O.waits in (
      O.newest ∷ O.others,
      record {
        number = F.number;
        links = F.links;
        below = F.below;
        paged = F.paged;
        tip = F.tip;
        begun = omega (arith, O.lane.tip.1);
        stands = F.stands;
        short = F.short;
      },
      step_join w.memory w.arena w.header ks [] v.memory v.arena v.header (O.newest ∷ O.others)
          (b ∷ [])
          (overwrite v.header.tail (b ∷ []) v.memory) v.arena (moved 1 v.header) (O.newest ∷ O.others)
          O.step S,
    )

-- ---- any number of bytes

run : (bs : List ℕ) (w : Writing) (ks : List ℕ) → LaneOf w ks → (w' : Writing) → appended bs w ≡ some w'
    → (ks' : List ℕ) × LaneOf w' ks' × StepOf w ks bs w' ks'
unfolding appended
run [] w ks L w' e =
    subst (λ (v : Writing). (ks' : List ℕ) × LaneOf v ks' × StepOf w ks [] v ks') (same_some w w' e)
    (ks, L, step_none w.memory w.arena w.header ks)
run (b ∷ bs) w ks L w' e = go (λ v ks' K f. run bs v ks' K w' f) (ready w) refl e
  where
    go : ((v : Writing) (ks' : List ℕ) → LaneOf v ks' → appended bs v ≡ some w'
        → (ks'' : List ℕ) × LaneOf w' ks'' × StepOf v ks' bs w' ks'')
        → (o : Option Writing) → ready w ≡ o → and_then o (λ v. appended bs (filled (b ∷ []) v)) ≡ some w'
        → (ks'' : List ℕ) × LaneOf w' ks'' × StepOf w ks (b ∷ bs) w' ks''
    go on none p e = let c : ◌≡◌ {A = ℕ} 0 1 = cc in absurd (omega arith)
    go on (some v) p e =
        let B = byte b w ks L v p in
        let u : Writing = filled (b ∷ []) v in
        let R = on u B.0 B.1 e in (
          R.0,
          R.1,
          step_join w.memory w.arena w.header ks (b ∷ []) u.memory u.arena u.header B.0 bs
              w'.memory w'.arena w'.header R.0 B.2 R.2,
        )

-- what is apart from the newest block is apart from what remains of it
rest-apart : (m : List ℕ) (a : Arena) (h : Header) (ks : List ℕ) → Lane m a h ks → (q n : ℕ) → q + n ≤ used_end a
    → TipApart q n ks
    → Apart h.tail (h.remaining + link_size) q n
rest-apart m a h [] L q n u t =
    inr (omega (arith, L.tip, L.short, (standing_facts a (length m) L.stands).in_memory))
rest-apart m a h (x ∷ ks) L q n u t =
    apart-within x (wide_on ks) q n h.tail (h.remaining + link_size) q n (omega (arith, L.tip))
    (omega (arith, L.tip)) (le_refl q) (le_refl (q + n)) t

-- ---- the theorems

-- a list without blocks is a lane
pub lane-fresh : (m : List ℕ) (a : Arena) → standing a (length m) ≡ true → length m ≤ arena_limit → Lane m a fresh []
lane-fresh m a s h =
    record {
      number = refl;
      links = tt;
      below = tt;
      paged = tt;
      tip = (refl, refl, refl);
      begun = tt;
      stands = s;
      short = h;
    }

-- an append that fits leaves a lane, and what `After` says
pub lane-appended : (m : List ℕ) (a : Arena) (h : Header) (ks bs : List ℕ) (w : Writing) → Lane m a h ks
    → appended bs (writing m a h) ≡ some w
    → (ks' : List ℕ) × After m a h ks bs w.memory w.arena w.header ks'
lane-appended m a h ks bs w L e =
    let R = run bs (writing m a h) ks L w e in
    let S = R.2 in (
      R.0,
      record {
        lane = R.1;
        bytes = S.bytes;
        span = λ q n u t. S.rest q n u (rest-apart m a h ks L q n u t);
        rest = S.rest;
        outside = S.outside;
        unfilled =
            S.unfilled w.header.tail (w.header.remaining + link_size) (le_refl w.header.tail)
            (le_refl (w.header.tail + (w.header.remaining + link_size)));
        tip = S.tip;
        fwd = S.fwd;
        back = S.back;
        older = S.older;
        newer = S.newer;
        grown = S.grown;
        grows = S.grows;
        size = S.size;
        len = S.len;
      },
    )
