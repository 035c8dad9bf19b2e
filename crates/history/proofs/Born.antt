-- What an accepted creation leaves is a sound store of no names, whatever the lent memory held. Assumes nothing.
use Prim.Native.Nat.{ℕ}
use mathlib.Core.Path.{◌≡◌, refl, sym, ap, ◌∙◌, subst}
use mathlib.Core.Bool.{Bool, true, false}
use mathlib.Core.Option.{none}
use mathlib.Core.List.{List, []}
use native.Mathlib.Omega.{arith}
use lib.ListN.{length, replicate}
use Rattle.murmurhash2.specs.Murmur.{murmur_hash2}
use Rattle.shared_arena_hashmap.specs.Power.{rounded_down}
use Rattle.shared_arena_hashmap.specs.Buckets.{cleared}
use Rattle.shared_arena_hashmap.proofs.Laws.{power_facts, rounded_is_power}
use Rattle.expull_header.specs.Header.{fresh}
use Rattle.store_state.specs.declared.State.{State}
use Rattle.store_create.specs.Create.{Out, out, creatable, fresh_state}
use Rattle.store_look.specs.Look.{lent, checked}
use Rattle.store_create.proofs.Creation.{creatable-room, create_made, create_barred}
use Rattle.store.proofs.Kept.{create_whole}
use Rattle.history_names.proofs.Grow.{clears, clears_none, clears_count}
use Rattle.history.specs.History.{World, Born}
use Rattle.history.specs.Sound.{Ghosts, Stands, Sound}
use Rattle.std.specs.Prelude.{Ok, Err}
use Rattle.store_create.specs.Create.{Created}
use Rattle.limits.specs.declared.Refusal.TheVariants.{NotCreatable}

-- no names
abbrev pub nobody : ℕ → Ghosts
nobody l = record { names = replicate l none; place = λ k. 0; header = λ k. fresh; blocks = λ k. [] }

module _ (capacity seed size : ℕ) (table keys lists : List ℕ) where
  abbrev l : ℕ
  l = rounded_down capacity

  abbrev pub start : World
  start =
      record {
        state = fresh_state seed size (length table) (length keys) (length lists) l;
        memory = lent (cleared 0 l table) keys lists;
      }

  start-whole : creatable capacity size (length table) (length keys) (length lists) ≡ true
      → checked start.state start.memory ≡ true
  start-whole e =
      let p = create_made capacity seed size table (length keys) (length lists) e in
      subst (λ (t : List ℕ). checked start.state (lent t keys lists) ≡ true) (ap (λ (o : Out). o.table) p)
      (create_whole capacity seed size table keys lists start.state (ap (λ (o : Out). o.answer) p))

  start-sound : creatable capacity size (length table) (length keys) (length lists) ≡ true → Sound start (nobody l)
  start-sound e = record {
    whole = start-whole e;
    table =
        clears table 0 l (murmur_hash2 seed) (λ k. 0) (power_facts l (rounded_is_power capacity)).some
        (creatable-room capacity size (length table) (length keys) (length lists) e);
    counted = sym (clears_count l);
    half = omega arith;
    records = λ k m. absurd (clears_none l k m);
    records_apart = λ k n x y f. absurd (clears_none l k x);
    lanes = λ k m. absurd (clears_none l k m);
    lanes_apart = λ k n x y f. absurd (clears_none l k x);
  }

  made_is : (s s' : State) (t t' : List ℕ) → out (Ok s) t ≡ out (Ok s') t' → (s ≡ s') × (t ≡ t')
  made_is s s' t t' e = (inside (ap (λ (o : Out). o.answer) e), ap (λ (o : Out). o.table) e)
    where
      inside : ◌≡◌ {A = Created} (Ok s) (Ok s') → s ≡ s'
      inside e = cc

  never : (t t' : List ℕ) (s : State) → out (Err NotCreatable) t ≡ out (Ok s) t' → ⊥
  never t t' s e =
      let q : ◌≡◌ {A = Created} (Err NotCreatable) (Ok s) = ap (λ (o : Out). o.answer) e in let z : ◌≡◌ {A = ℕ} 0 1 = cc in omega arith

  -- what is born is the start
  pub born-start : (w : World) → Born capacity seed size table keys lists w
      → (creatable capacity size (length table) (length keys) (length lists) ≡ true) × (start ≡ w)
  born-start w B = go (creatable capacity size (length table) (length keys) (length lists)) refl
    where
      go : (b : Bool) → creatable capacity size (length table) (length keys) (length lists) ≡ b
          → (creatable capacity size (length table) (length keys) (length lists) ≡ true) × (start ≡ w)
      go true e =
          let p = made_is start.state w.state (cleared 0 l table) w.memory.table
          (sym (create_made capacity seed size table (length keys) (length lists) e) ∙ B.made) in (
            e,
            λ i. record {
              state = p.0 i;
              memory = lent (p.1 i) (sym B.keys_lent i) (sym B.lists_lent i);
            },
          )
      go false e =
          absurd (never table w.memory.table w.state
          (sym (create_barred capacity seed size table (length keys) (length lists) e) ∙ B.made))

  pub born-sound : (w : World) → Born capacity seed size table keys lists w → Sound w (nobody l)
  born-sound w B = let p = born-start w B in subst (λ (w : World). Sound w (nobody l)) p.1 (start-sound p.0)

  -- its pages are of the size asked for
  pub born_size : (w : World) → Born capacity seed size table keys lists w → w.state.key_arena.size ≡ size
  born_size w B = ap (λ (v : World). v.state.key_arena.size) (sym (born-start w B).1)

  -- and no name stands in it
  pub born_empty : (k : List ℕ) → Stands (nobody l) k → ⊥
  born_empty k m = clears_none l k m
