-- A block stays where it is: what finding it tells of its place, it tells after any more calls. Assumes nothing.
use Prim.Native.Nat.{ℕ, ◌<◌}
use mathlib.Core.Path.{◌≡◌, refl, sym, ap, ◌∙◌, subst}
use mathlib.Core.Bool.{Bool, true, false}
use mathlib.Core.List.{List, [], ◌∷◌, ◌++◌, append_assoc}
use native.Mathlib.Omega.{arith}
use lib.Dec.{ltb}
use lib.ListN.{length, length-append}
use borrow.Author.Tests.{ltb-true, ltb-false}
use Rattle.memory_arena.specs.declared.Arena.{Arena}
use Rattle.expull_header.specs.declared.Header.{Header}
use Rattle.expull_header.specs.Header.{block_count}
use Rattle.expull_walk.specs.Blocks.{block_place, block_length}
use Rattle.store_look.specs.declared.Lookup.{Lookup}
use Rattle.store_look.specs.declared.Lookup.TheVariants.{Failed}
use Rattle.store_look.specs.declared.Answer.TheVariants.{Found, Refused}
use Rattle.store_look.specs.declared.Outcome.TheVariants.{Block}
use Rattle.store_look.specs.Look.{lookup_of, on_lookup, block_at, find_block_of}
use Rattle.history_lanes.specs.Lane.{Links, oldest, Lane}
use Rattle.history_lanes.proofs.Readings.{lane_count, place_newest}
use Rattle.history.specs.History.{World}
use Rattle.history.specs.Sound.{Ghosts, Stands, Sound}
use Rattle.history.proofs.Readings.{block_there, block_past}
use Rattle.history.proofs.Told.{Grown, Stays}

-- a block among a list's, with the older ones under it: i of them
record Block·at (ks : List ℕ) (i : ℕ) : Type 0 where
  upper : List ℕ
  block : ℕ
  lower : List ℕ
  is : ks ≡ upper ++ (block ∷ lower)
  index : length lower ≡ i

at_index : (ks : List ℕ) (i : ℕ) → i < length ks → Block·at ks i
at_index [] i h = absurd (omega arith)
at_index (x ∷ ks) i h = go (ltb i (length ks)) refl (at_index ks i)
  where
    go : (b : Bool) → ltb i (length ks) ≡ b → (i < length ks → Block·at ks i) → Block·at (x ∷ ks) i
    go true e f =
        let B = f (ltb-true i (length ks) e) in
        record {
          upper = x ∷ B.upper;
          block = B.block;
          lower = B.lower;
          is = ap (λ (l : List ℕ). x ∷ l) B.is;
          index = B.index;
        }
    go false e f =
        record { upper = []; block = x; lower = ks; is = refl; index = omega (arith, ltb-false i (length ks) e) }

-- its links and the head lead to it
links_under : (m upper : List ℕ) (x : ℕ) (lower : List ℕ) → Links m (upper ++ (x ∷ lower)) → Links m (x ∷ lower)
links_under m [] x lower l = l
links_under m (y ∷ upper) x lower l = links_under m upper x lower l.1

oldest_under : (y : ℕ) (upper : List ℕ) (x : ℕ) (lower : List ℕ) → oldest y (upper ++ (x ∷ lower)) ≡ oldest x lower
oldest_under y [] x lower = refl
oldest_under y (z ∷ upper) x lower = oldest_under z upper x lower

head_under : (m : List ℕ) (a : Arena) (h : Header) (upper : List ℕ) (x : ℕ) (lower : List ℕ)
    → Lane m a h (upper ++ (x ∷ lower)) → h.head ≡ oldest x lower
head_under m a h [] x lower L = L.tip.0
head_under m a h (y ∷ upper) x lower L = L.tip.0 ∙ oldest_under y upper x lower

place_of_lem : (m : List ℕ) (a : Arena) (h : Header) (ks upper : List ℕ) (x : ℕ) (lower : List ℕ) → Lane m a h ks
    → ks ≡ upper ++ (x ∷ lower) → block_place m h.head (length lower) ≡ x
place_of_lem m a h ks upper x lower L e =
    let K = subst (Lane m a h) e L in
    place_newest m h.head x lower (links_under m upper x lower K.links) (head_under m a h upper x lower K)

-- the same block, later
place-stays : (m : List ℕ) (a : Arena) (h : Header) (ks m' : List ℕ) (a' : Arena) (h' : Header) (ks' : List ℕ)
    → Lane m a h ks → Lane m' a' h' ks' → Grown ks ks' → (i : ℕ) → i < length ks
    → block_place m' h'.head i ≡ block_place m h.head i
place-stays m a h ks m' a' h' ks' L L' g i l =
    let B = at_index ks i l in
    let e : ks' ≡ (g.0 ++ B.upper) ++ (B.block ∷ B.lower) =
    g.1 ∙ ap (λ (x : List ℕ). g.0 ++ x) B.is ∙ sym (append_assoc g.0 B.upper (B.block ∷ B.lower)) in
    ap (block_place m' h'.head) (sym B.index)
    ∙ place_of_lem m' a' h' ks' (g.0 ++ B.upper) B.block B.lower L' e
    ∙ sym (place_of_lem m a h ks B.upper B.block B.lower L B.is)
    ∙ ap (block_place m h.head) B.index

-- as the store tells it, of a name that stands
pub found-stays : {w w' : World} {G G' : Ghosts} → Sound w G → Sound w' G' → Stays G G' → (name : List ℕ)
    → Stands G name
    → (i at n : ℕ) → find_block_of w.state w.memory name i ≡ Found (Block at n)
    → (k : ℕ) × (find_block_of w'.state w'.memory name i ≡ Found (Block at k))
found-stays {w} {w'} {G} {G'} S S' A name M i at n e = go (ltb i (block_count (G.header name))) refl
  where
    there : i < block_count (G.header name)
        → (k : ℕ) × (find_block_of w'.state w'.memory name i ≡ Found (Block at k))
    there l =
        let a = A name M in
        let L = S.lanes name M in
        let L' = S'.lanes name a.0 in
        let c = lane_count w.memory.lists w.state.list_arena (G.header name) (G.blocks name) L in
        let c' = lane_count w'.memory.lists w'.state.list_arena (G'.header name) (G'.blocks name) L' in
        let p = block_there S name M i l in
        let x : at ≡ block_place w.memory.lists (G.header name).head i = cc in
        let y = place-stays w.memory.lists w.state.list_arena (G.header name) (G.blocks name)
        w'.memory.lists w'.state.list_arena (G'.header name) (G'.blocks name) L L' a.1 i (omega arith) in
        let more = length-append a.1.0 (G.blocks name) in
        let l' : i < block_count (G'.header name) = omega (arith, ap length a.1.1) in (
          block_length (G'.header name) i,
          block_there S' name a.0 i l'
              ∙ ap (λ (b : ℕ). Found (Block b (block_length (G'.header name) i))) (y ∙ sym x),
        )

    go : (b : Bool) → ltb i (block_count (G.header name)) ≡ b
        → (k : ℕ) × (find_block_of w'.state w'.memory name i ≡ Found (Block at k))
    go true q = there (ltb-true i (block_count (G.header name)) q)
    go false q =
        let p = block_past S name M i (ltb-false i (block_count (G.header name)) q) in
        let z : ◌≡◌ {A = ℕ} 0 1 = cc in absurd (omega arith)

-- a lookup that is refused finds no block
pub failed_block : (w : World) (name : List ℕ) (i n : ℕ) → lookup_of w.state w.memory name ≡ Failed n
    → find_block_of w.state w.memory name i ≡ Refused n 0
unfolding find_block_of
failed_block w name i n e = ap (λ (l : Lookup). on_lookup l (block_at w.state w.memory i)) e
