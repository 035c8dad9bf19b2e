-- The names of a sound store, counted and listed. Assumes nothing.
use Prim.Native.Nat.{ℕ, zero, suc, ◌+◌, ◌-◌}
use mathlib.Core.Path.{◌≡◌, refl, sym, ap, ◌∙◌}
use mathlib.Core.Logic.{◌⊎◌, inl, inr, ⊎_elim}
use mathlib.Core.Bool.{false≢true}
use mathlib.Core.List.{List, ◌∷◌, map}
use native.Mathlib.Omega.{arith}
use lib.ListN.{length}
use Rattle.std.specs.Prelude.{Option, Some, None}
use Rattle.shared_arena_hashmap.specs.declared.Occupied.{Occupied}
use Rattle.records.specs.Record.{key_at}
use Rattle.shared_arena_hashmap.specs.Probe.{occupied_by, occupied_from}
use Rattle.store_look.specs.declared.Listed.{Listed}
use Rattle.store_look.specs.declared.Listed.TheVariants.{Bucket, NoMore, Stopped}
use Rattle.store_look.specs.declared.Counted.TheVariants.{Keys}
use Rattle.store_state.specs.State.{first_of}
use Rattle.store_look.specs.declared.Lookup.TheVariants.{At}
use Rattle.store_look.specs.Look.{lookup_of, on_next, next_of}
use Rattle.store_look.proofs.Found.{next-on, next-good, next_none, count_keys}
use Rattle.history_names.specs.Listing.{in_order, times, listed_next, listing}
use Rattle.history_names.proofs.Listing.{order_length, lists-next, lists_once, lists_only, lists-names}
use Rattle.history.specs.History.{World}
use Rattle.history.specs.Promises.{listed_on, listed_from, listed_names, HasNames}
use Rattle.history.specs.Sound.{Ghosts, Sound}
use Rattle.history.proofs.Answers.{sound-records}
use Rattle.history.proofs.Told.{Counts}
use Rattle.history.proofs.Readings.{lookup_finds}

module _ {w : World} {G : Ghosts} (S : Sound w G) where
  -- the next bucket as the table has it
  abbrev next : ℕ → Option Occupied
  next i = occupied_from w.memory.table (first_of w.state) (w.state.buckets - i) i

  -- the answer is the bucket and its record's place, or none
  record Meets (i : ℕ) : Type 0 where
    bucket : ℕ
    place : ℕ
    met : next i ≡ Some (occupied_by bucket place)
    said : next_of w.state w.memory i ≡ Bucket bucket place
    found : lookup_of w.state w.memory (key_at w.memory.keys place) ≡ At place

  meets : (i : ℕ) → Meets i ⊎ ((next i ≡ None) × (next_of w.state w.memory i ≡ NoMore))
  meets i =
      ⊎_elim
      (λ r. inl (record {
        bucket = r.0;
        place = G.place r.1;
        met = r.3;
        said =
            next-on w.state w.memory i S.whole
            ∙ ap (λ (x : Option Occupied). on_next x w.state.key_arena w.memory.keys) r.3
            ∙ next-good w.state.key_arena w.memory.keys (occupied_by r.0 (G.place r.1))
            (sound-records S r.1 (r.0, r.2.named)).0;
        found = ap (lookup_of w.state w.memory) (sound-records S r.1 (r.0, r.2.named)).1
            ∙ lookup_finds S r.1 (r.0, r.2.named);
      }))
      (λ r. inr (
        r.1,
        next-on w.state w.memory i S.whole
            ∙ ap (λ (x : Option Occupied). on_next x w.state.key_arena w.memory.keys) r.1
            ∙ next_none w.state.key_arena w.memory.keys,
      ))
      (lists-next S.table i)

  listed_is : (n i : ℕ) → listed_from w n i ≡ listing w.memory.table (first_of w.state) w.state.buckets n i
  unfolding listed_from listing
  listed_is zero i = refl
  listed_is (suc n) i = go (meets i) (listed_is n)
    where
      rest : ℕ → List ℕ
      rest j = listing w.memory.table (first_of w.state) w.state.buckets n j

      go : Meets i ⊎ ((next i ≡ None) × (next_of w.state w.memory i ≡ NoMore))
          → ((j : ℕ) → listed_from w n j ≡ rest j)
          → listed_on (next_of w.state w.memory i) (λ j. listed_from w n j) ≡ listed_next (next i) (λ j. rest j)
      go (inl r) ih =
          ap (λ (x : Listed). listed_on x (λ j. listed_from w n j)) r.said
          ∙ ap (λ (l : List ℕ). r.place ∷ l) (ih (r.bucket + 1))
          ∙ sym (ap (λ (x : Option Occupied). listed_next x (λ j. rest j)) r.met)
      go (inr r) ih =
          ap (λ (x : Listed). listed_on x (λ j. listed_from w n j)) r.1
          ∙ sym (ap (λ (x : Option Occupied). listed_next x (λ j. rest j)) r.0)

  names_are : listed_names w ≡ in_order G.names
  names_are =
      ap (map (key_at w.memory.keys)) (listed_is w.state.buckets 0)
      ∙ lists-names S.table w.memory.keys w.state.key_arena (sound-records S)

  never_stopped : (i n : ℕ) → next_of w.state w.memory i ≡ Stopped n → ⊥
  never_stopped i n e = go (meets i)
    where
      go : Meets i ⊎ ((next i ≡ None) × (next_of w.state w.memory i ≡ NoMore)) → ⊥
      go (inl r) = let q = r.said in let z : ◌≡◌ {A = ℕ} 0 1 = cc in omega arith
      go (inr r) = let q = r.1 in let z : ◌≡◌ {A = ℕ} 0 1 = cc in omega arith

  there : (i b at : ℕ) → next_of w.state w.memory i ≡ Bucket b at
      → lookup_of w.state w.memory (key_at w.memory.keys at) ≡ At at
  there i b at e = go (meets i)
    where
      go : Meets i ⊎ ((next i ≡ None) × (next_of w.state w.memory i ≡ NoMore))
          → lookup_of w.state w.memory (key_at w.memory.keys at) ≡ At at
      go (inl r) =
          let q : Bucket b at ≡ Bucket r.bucket r.place = sym e ∙ r.said in
          let p : at ≡ r.place = cc in
          rw p r.found
      go (inr r) =
          let q : Bucket b at ≡ NoMore = sym e ∙ r.1 in
          let z : ◌≡◌ {A = ℕ} 0 1 = cc in
          absurd (omega arith)

  pub has_names : (ns : List (List ℕ)) → Counts w G ns → HasNames w ns
  has_names ns C = record {
    counted = C.many;
    told = count_keys w.state w.memory S.whole ∙ ap Keys C.many;
    distinct = C.once;
    listed = ap length names_are ∙ order_length G.names ∙ sym S.counted ∙ C.many;
    each_once = λ j m. ap (times j) names_are ∙ lists_once S.table j (C.only j m);
    no_other = λ j m. ap (times j) names_are ∙ lists_only S.table j (λ o. false≢true (sym m ∙ C.all j o));
    listed_there = there;
    unstopped = never_stopped;
  }
