-- A list whose blocks are good and share no place, in whatever order they lie: what an append to it leaves. Assumes
-- nothing.
use Prim.Native.Nat.{ℕ, ◌+◌, ◌-◌, ◌≤◌, ◌<◌}
use mathlib.Core.Path.{◌≡◌, refl, sym, ap, ◌∙◌, subst}
use mathlib.Core.Logic.{inl}
use mathlib.Core.Bool.{Bool, true, false, cond}
use mathlib.Core.Option.{Option, none, some}
use mathlib.Core.List.{List, [], ◌∷◌}
use native.Mathlib.Nat.{le_refl, le_trans}
use native.Mathlib.Omega.{arith}
use lib.Dec.{eqb}
use lib.ListN.{length}
use borrow.Author.Tests.{eq-eqb, ne_eqb, eqb-true, eqb-false}
use Rattle.limits.specs.Limits.{arena_limit, fresh_number, link_size}
use Rattle.numbers.specs.LittleEndian.{le_bytes}
use Rattle.numbers.proofs.Laws.{length_le}
use Rattle.spans.specs.Span.{read_span, overwrite}
use Rattle.spans.proofs.Laws.{length-overwrite, read-apart, number_back}
use Rattle.memory_arena.specs.declared.Arena.{Arena}
use Rattle.memory_arena.specs.Address.{place_of}
use Rattle.memory_arena.specs.Pages.{MaybeRoom, room_at, standing, room_for}
use Rattle.memory_arena.proofs.Laws.{place_of_lem, standing_facts, standing_made, Placed, room_size, room_facts}
use Rattle.expull_header.specs.declared.Header.{Header}
use Rattle.expull_header.specs.Header.{block_size, fresh}
use Rattle.expull_append.specs.Append.{Writing, writing, next_wide, head_with, linked, header_with, with_block, on_room}
use Rattle.expull_append.specs.Append.{take_block, ready, moved, filled, and_then, appended}
use Rattle.expull_header.proofs.Laws.{size_pos}
use Rattle.history_lanes.specs.Lane.{size_on, wide_on, Paged, Clear, used_end}
use Rattle.history_lanes.proofs.Blocks.{apart-within, apart_sym, clear_within, clear_above, below_up}
use Rattle.history_lanes.proofs.Blocks.{link_to_kept, links-kept}
use Rattle.brownout_kept.specs.Laid.{Chain}
use Rattle.std.specs.Prelude.{Some, None}

-- ---- a list without blocks

pub chain-fresh : (m : List ℕ) (a : Arena) → standing a (length m) ≡ true → length m ≤ arena_limit
    → Chain m a fresh []
chain-fresh m a s h = record {
  number = refl;
  links = tt;
  below = tt;
  paged = tt;
  ends = (refl, refl, refl);
  own = tt;
  stands = s;
  short = h;
}

-- what a piece of an append does, besides the list that it leaves
pub record Step (m : List ℕ) (a : Arena) (ks m' : List ℕ) (a' : Arena) (ks' : List ℕ) : Type 0 where
  -- what lies in the used part and in none of the list's blocks stays, and lies in none of them afterwards
  pub kept : (q n : ℕ) → q + n ≤ used_end a → Clear q n ks → read_span q n m' ≡ read_span q n m
  pub clear : (q n : ℕ) → q + n ≤ used_end a → Clear q n ks → Clear q n ks'
  pub grows : used_end a ≤ used_end a'
  pub size : a'.size ≡ a.size
  pub len : length m' ≡ length m

step_none : (m : List ℕ) (a : Arena) (ks : List ℕ) → Step m a ks m a ks
step_none m a ks = record {
  kept = λ q n u c. refl;
  clear = λ q n u c. c;
  grows = le_refl (used_end a);
  size = refl;
  len = refl;
}

step_join : {m : List ℕ} {a : Arena} {ks m' : List ℕ} {a' : Arena} {ks' m'' : List ℕ} {a'' : Arena} {ks'' : List ℕ}
    → Step m a ks m' a' ks' → Step m' a' ks' m'' a'' ks'' → Step m a ks m'' a'' ks''
step_join A B = record {
  kept = λ q n u c. B.kept q n (le_trans u A.grows) (A.clear q n u c) ∙ A.kept q n u c;
  clear = λ q n u c. B.clear q n (le_trans u A.grows) (A.clear q n u c);
  grows = le_trans A.grows B.grows;
  size = B.size ∙ A.size;
  len = B.len ∙ A.len;
}

-- ---- bytes into the newest block

module _ (cs m : List ℕ) (a : Arena) (h : Header) (x : ℕ) (ks : List ℕ) (L : Chain m a h (x ∷ ks))
    (f : length cs ≤ h.remaining) where
  fill_clear : Clear h.tail (length cs) ks
  fill_clear =
      clear_within x (wide_on ks) h.tail (length cs) ks (omega (arith, L.ends)) (omega (arith, L.ends)) L.own.0

  fill_chain : Chain (overwrite h.tail cs m) a (moved (length cs) h) (x ∷ ks)
  fill_chain = record {
    number = L.number;
    links = (
      link_to_kept h.tail cs m ks x fill_clear L.links.0,
      links-kept h.tail cs m ks fill_clear L.links.1,
    );
    below = L.below;
    paged = L.paged;
    ends = (L.ends.0, omega (arith, L.ends), omega (arith, L.ends));
    own = L.own;
    stands = rw length-overwrite L.stands;
    short = rw length-overwrite L.short;
  }

  fill_step : Step m a (x ∷ ks) (overwrite h.tail cs m) a (x ∷ ks)
  fill_step = record {
    kept = λ q n u c. read-apart q n h.tail cs m
        (apart-within x (wide_on ks) q n h.tail (length cs) q n (omega (arith, L.ends)) (omega (arith, L.ends))
        (le_refl q) (le_refl (q + n)) (apart_sym q n x (wide_on ks) c.0));
    clear = λ q n u c. c;
    grows = le_refl (used_end a);
    size = refl;
    len = length-overwrite h.tail cs m;
  }

-- ---- a block taken at v

abbrev head_on : List ℕ → ℕ → Header → ℕ
head_on [] v h = v
head_on (x ∷ ks) v h = h.head

abbrev header_on : List ℕ → ℕ → Header → Header
header_on ks v h = record { number = length ks + 3; head = head_on ks v h; tail = v; remaining = size_on ks }

abbrev memory_on : List ℕ → ℕ → Header → List ℕ → List ℕ
memory_on [] v h m = m
memory_on (x ∷ ks) v h m = overwrite h.tail (le_bytes link_size v) m

header-on : (ks : List ℕ) (v : ℕ) (h : Header) → h.number ≡ length ks + fresh_number → header_with v h ≡ header_on ks v h
unfolding header_with
header-on ks v h e =
    let p : h.number + 1 ≡ length ks + 3 = omega arith in
    λ i. record { number = p i; head = go ks e i; tail = v; remaining = block_size (p i) }
  where
    go : (ks : List ℕ) → h.number ≡ length ks + fresh_number → head_with v h ≡ head_on ks v h
    go [] e = rw (eq-eqb h.number fresh_number e)
    go (x ∷ ks) e = rw (ne_eqb h.number fresh_number (λ z. omega arith))

memory_on_lem : (ks : List ℕ) (v : ℕ) (h : Header) (m : List ℕ) → h.number ≡ length ks + fresh_number
    → linked v h m ≡ memory_on ks v h m
unfolding linked
memory_on_lem [] v h m e = rw (eq-eqb h.number fresh_number e)
memory_on_lem (x ∷ ks) v h m e = rw (ne_eqb h.number fresh_number (λ z. omega arith))

-- where a block may be taken: above the used part, on one page, and the used part then ends with it; the pages keep
-- their size
record Spot (m : List ℕ) (a : Arena) (ks : List ℕ) (v : ℕ) (a' : Arena) : Type 0 where
  above : used_end a ≤ v
  end : used_end a' ≡ v + wide_on ks
  size : a'.size ≡ a.size
  on_page : place_of a'.size v + wide_on ks ≤ a'.size
  stands : standing a' (length m) ≡ true

take-chain : (m : List ℕ) (a : Arena) (h : Header) (ks : List ℕ) (v : ℕ) (a' : Arena) → Chain m a h ks
    → h.remaining ≡ 0 → Spot m a ks v a' → Chain (memory_on ks v h m) a' (header_on ks v h) (v ∷ ks)
take-chain m a h [] v a' L z S = record {
  number = refl;
  links = (tt, tt);
  below = (omega (arith, S.end), tt);
  paged = (S.on_page, tt);
  ends = (refl, le_refl (size_on []), refl);
  own = (tt, tt);
  stands = S.stands;
  short = L.short;
}
take-chain m a h (x ∷ ks) v a' L z S =
    let j : used_end a' ≤ length m = (standing_facts a' (length m) S.stands).in_memory in
    let e : h.tail ≡ x + size_on ks = omega (arith, L.ends) in
    let l : length (le_bytes link_size v) ≡ link_size = length_le link_size v in
    let c : Clear h.tail (length (le_bytes link_size v)) ks =
    clear_within x (wide_on ks) h.tail (length (le_bytes link_size v)) ks (omega arith) (omega arith) L.own.0 in
    record {
      number = omega arith;
      links = (
        rw e (number_back link_size (x + size_on ks) v m (omega (arith, L.below.0, S.above, S.end))
            (omega (arith, S.end, L.short))),
        (
          link_to_kept h.tail (le_bytes link_size v) m ks x c L.links.0,
          links-kept h.tail (le_bytes link_size v) m ks c L.links.1,
        ),
      );
      below = (
        omega (arith, S.end),
        below_up (used_end a) (used_end a') (x ∷ ks) (omega (arith, S.above, S.end)) L.below,
      );
      paged = (S.on_page, subst (λ (s : ℕ). Paged s (x ∷ ks)) (sym S.size) L.paged);
      ends = (L.ends.0, le_refl (size_on (x ∷ ks)), refl);
      own = (clear_above (used_end a) v (wide_on (x ∷ ks)) (x ∷ ks) S.above L.below, L.own);
      stands = rw length-overwrite S.stands;
      short = rw length-overwrite L.short;
    }

take_step : (m : List ℕ) (a : Arena) (h : Header) (ks : List ℕ) (v : ℕ) (a' : Arena) → Chain m a h ks
    → h.remaining ≡ 0 → Spot m a ks v a' → Step m a ks (memory_on ks v h m) a' (v ∷ ks)
take_step m a h [] v a' L z S = record {
  kept = λ q n u c. refl;
  clear = λ q n u c. (inl (le_trans u S.above), tt);
  grows = omega (arith, S.above, S.end);
  size = S.size;
  len = refl;
}
take_step m a h (x ∷ ks) v a' L z S =
    let l : length (le_bytes link_size v) ≡ link_size = length_le link_size v in
    let e : h.tail ≡ x + size_on ks = omega (arith, L.ends) in
    record {
      kept = λ q n u c. read-apart q n h.tail (le_bytes link_size v) m
          (apart-within x (wide_on ks) q n h.tail (length (le_bytes link_size v)) q n (omega arith) (omega arith)
          (le_refl q) (le_refl (q + n)) (apart_sym q n x (wide_on ks) c.0));
      clear = λ q n u c. (inl (le_trans u S.above), c);
      grows = omega (arith, S.above, S.end);
      size = S.size;
      len = length-overwrite h.tail (le_bytes link_size v) m;
    }

spot-at : (m : List ℕ) (a : Arena) (h : Header) (ks : List ℕ) (v : ℕ) (a' : Arena) → Chain m a h ks
    → room_for a (length m) (next_wide h) ≡ room_at v a' → Spot m a ks v a'
spot-at m a h ks v a' L e =
    let p : h.number + 1 ≡ length ks + 3 = omega (arith, L.number) in
    let w : next_wide h ≡ wide_on ks = ap (λ (b : ℕ). block_size b + link_size) p in
    let f = ap (room_for a (length m)) (sym w) ∙ e in
    let R : Placed a (length m) (wide_on ks) v a' =
    room_facts a (length m) (wide_on ks) v a' (omega arith) L.stands f in
    record {
      above = R.above;
      end = R.end;
      size = room_size a (length m) (wide_on ks) v a' f;
      on_page =
          rw (
            R.page_on,
            place_of_lem a'.size a'.page (a'.used - wide_on ks)
                (omega (arith, R.wide, R.after.in_page)),
          )
          (omega (arith, R.wide, R.after.in_page));
      stands = standing_made a' (length m) R.after;
    }

-- ---- any number of bytes

abbrev ChainOf : Writing → List ℕ → Type 0
ChainOf w ks = Chain w.memory w.arena w.header ks

abbrev StepOf : Writing → List ℕ → Writing → List ℕ → Type 0
StepOf w ks w' ks' = Step w.memory w.arena ks w'.memory w'.arena ks'

take-with : (w : Writing) (ks : List ℕ) (v : ℕ) (a' : Arena) → ChainOf w ks → w.header.remaining ≡ 0
    → room_for w.arena (length w.memory) (next_wide w.header) ≡ room_at v a'
    → ChainOf (with_block v a' w) (v ∷ ks) × StepOf w ks (with_block v a' w) (v ∷ ks)
    × (0 < (header_with v w.header).remaining)
take-with w ks v a' L z e =
    let S = spot-at w.memory w.arena w.header ks v a' L e in
    let p : with_block v a' w ≡ writing (memory_on ks v w.header w.memory) a' (header_on ks v w.header) =
    λ i. writing (memory_on_lem ks v w.header w.memory L.number i) a' (header-on ks v w.header L.number i) in
    subst (λ (w' : Writing). ChainOf w' (v ∷ ks) × StepOf w ks w' (v ∷ ks) × (0 < w'.header.remaining)) (sym p) (
      take-chain w.memory w.arena w.header ks v a' L z S,
      take_step w.memory w.arena w.header ks v a' L z S,
      size_pos (length ks + 3),
    )

-- where a byte may be written at once
record Open (w : Writing) (ks : List ℕ) (v : Writing) : Type 0 where
  newest : ℕ
  others : List ℕ
  chain : ChainOf v (newest ∷ others)
  step : StepOf w ks v (newest ∷ others)
  waits : 0 < v.header.remaining

same_some : (w v : Writing) → some w ≡ some v → w ≡ v
same_some w v e = cc

ready-open : (w : Writing) (ks : List ℕ) → ChainOf w ks → (v : Writing) → ready w ≡ some v → Open w ks v
unfolding ready
ready-open w ks L v e = go (eqb w.header.remaining 0) refl e
  where
    taken : (r : MaybeRoom) → room_for w.arena (length w.memory) (next_wide w.header) ≡ r
        → w.header.remaining ≡ 0 → on_room r w ≡ some v → Open w ks v
    taken (Some r) p z e =
        let T = take-with w ks r.at r.after L z p in
        subst (λ (v : Writing). Open w ks v) (same_some (with_block r.at r.after w) v e)
        (record { newest = r.at; others = ks; chain = T.0; step = T.1; waits = T.2 })
    taken None p z e = let c : ◌≡◌ {A = ℕ} 0 1 = cc in absurd (omega arith)

    stays : (ks : List ℕ) → ChainOf w ks → (w.header.remaining ≡ 0 → ⊥) → Open w ks w
    stays [] L z = absurd (z L.ends.2)
    stays (x ∷ ks) L z = record {
      newest = x;
      others = ks;
      chain = L;
      step = step_none w.memory w.arena (x ∷ ks);
      waits = omega arith;
    }

    go : (t : Bool) → eqb w.header.remaining 0 ≡ t → cond t (take_block w) (some w) ≡ some v → Open w ks v
    go true p e =
        taken (room_for w.arena (length w.memory) (next_wide w.header)) refl
        (eqb-true w.header.remaining 0 p) e
    go false p e =
        subst (λ (v : Writing). Open w ks v) (same_some w v e) (stays ks L (eqb-false w.header.remaining 0 p))

-- what an append leaves
abbrev Left : Writing → List ℕ → Writing → Type 0
Left w ks w' = (ks' : List ℕ) × ChainOf w' ks' × StepOf w ks w' ks'

byte : (b : ℕ) (w : Writing) (ks : List ℕ) → ChainOf w ks → (v : Writing) → ready w ≡ some v
    → Left w ks (filled (b ∷ []) v)
unfolding filled
byte b w ks L v e =
    let O = ready-open w ks L v e in
    let z = O.waits in (
      O.newest ∷ O.others,
      fill_chain (b ∷ []) v.memory v.arena v.header O.newest O.others O.chain z,
      step_join O.step
          (fill_step (b ∷ []) v.memory v.arena v.header O.newest O.others O.chain z),
    )

pub chain-appended : (bs : List ℕ) (w : Writing) (ks : List ℕ) → ChainOf w ks → (w' : Writing) → appended bs w ≡ some w'
    → Left w ks w'
unfolding appended
chain-appended [] w ks L w' e =
    subst (Left w ks) (same_some w w' e) (ks, L, step_none w.memory w.arena ks)
chain-appended (b ∷ bs) w ks L w' e = go (λ v ks' K f. chain-appended bs v ks' K w' f) (ready w) refl e
  where
    go : ((v : Writing) (ks' : List ℕ) → ChainOf v ks' → appended bs v ≡ some w' → Left v ks' w')
        → (o : Option Writing) → ready w ≡ o → and_then o (λ v. appended bs (filled (b ∷ []) v)) ≡ some w' → Left w ks w'
    go on none p e = let c : ◌≡◌ {A = ℕ} 0 1 = cc in absurd (omega arith)
    go on (some v) p e =
        let B = byte b w ks L v p in
        let R = on (filled (b ∷ []) v) B.0 B.1 e in
        (R.0, R.1, step_join B.2 R.2)
