-- Laws of scripts: a turn of the replay, and the call. Assumes nothing.
use Prim.Native.Nat.{ℕ, zero, suc, ◌+◌, ◌-◌, ◌≤◌, ◌<◌}
use mathlib.Core.Path.{◌≡◌, refl, sym, ap, ◌∙◌, subst}
use mathlib.Core.Bool.{Bool, true, false, false≢true}
use mathlib.Core.List.{List}
use native.Mathlib.Omega.{arith}
use lib.ListN.{length}
use Rattle.limits.specs.Limits.{name_limit_for}
use Rattle.std.specs.Prelude.{Some, None}
use Rattle.entries.specs.declared.Entry.{Entry as Places}
use Rattle.entries.specs.Form.{whole, entry_at, Inside, Met, entries_from}
use Rattle.entries.proofs.Laws.{entries_none, entries-whole}
use Rattle.store_create.specs.Create.{Created}
use Rattle.store_create.specs.Create.{Out as CreateOut, out as Create·out, creatable}
use Rattle.store_look.specs.Look.{Lent, lent}
use Rattle.store_create.proofs.Creation.{create_made, create_barred}
use Rattle.store_state.specs.declared.State.{State}
use Rattle.history.specs.History.{World, Call, play, Born, joined}
use Rattle.history.specs.Promises.{ReadsAs}
use Rattle.history.proofs.Born.{born_size}
use Rattle.history.proofs.Demand.{reads_back}
use Rattle.replay.specs.Script.{world, calls_by, calls_of, played, Out}
use Rattle.replay.specs.Script.{out, left_by, played_on, created_on, replay_of, Replayed}
use Rattle.std.specs.Prelude.{Ok, Err}
use Rattle.limits.specs.declared.Refusal.{Refusal}
use Rattle.limits.specs.declared.Refusal.TheVariants.{NotCreatable}

-- what is left of a script from a place on, at most n entries
abbrev pub calls_from : ℕ → List ℕ → ℕ → List Call
calls_from n s at = calls_by (entries_from n s at).entries

module _ (s : List ℕ) (at : ℕ) where
  -- no whole entry there: nothing is left to play
  pub turn-ends : (n : ℕ) (w : World) → None ≡ entry_at s at → play (calls_from n s at) w ≡ w
  unfolding play
  turn-ends n w p = ap (λ (m : Met). play (calls_by m.entries) w) (entries_none s at n (sym p))

  -- an entry there: its append, then what follows it
  pub turn-plays : (n : ℕ) (st : State) (m : Lent) (e f t : ℕ) → 0 < n → whole e f t ≡ entry_at s at
      → play (calls_from n s at) (world st m) ≡ play (calls_from (n - 1) s t) (played st m s (at + 2) e f t)
  unfolding play
  turn-plays n st m e f t h p =
      ap (λ (x : Met). play (calls_by x.entries) (world st m)) (entries-whole s at n e f t h (sym p))

-- no turn left: nothing is left to play
pub turns_over : (s : List ℕ) (at n : ℕ) (w : World) → n ≤ 0 → play (calls_from n s at) w ≡ w
unfolding entries_from play
turns_over s at zero w h = refl
turns_over s at (suc n) w h = absurd (omega arith)

-- the loop on its way: what is left of the script, from a place on, of what was to be played on w. That many turns are
-- enough, though the code counts none
pub record Playing (s : List ℕ) (w v : World) (at : ℕ) : Type 0 where
  pub inside : at ≤ length s
  pub turns : ℕ
  pub enough : length s ≤ at + turns
  pub rest : play (calls_of s) w ≡ play (calls_from turns s at) v

pub playing_start : (s : List ℕ) (w : World) → Playing s w w 0
playing_start s w = record { inside = omega arith; turns = length s; enough = omega arith; rest = refl }

module _ {s : List ℕ} {w v : World} {at : ℕ} (P : Playing s w v at) where
  -- no whole entry there
  pub playing-ends : None ≡ entry_at s at → v ≡ play (calls_of s) w
  playing-ends p = sym (P.rest ∙ turn-ends s at P.turns v p)

  -- an entry there
  pub playing-on : (e : Places) (u : World) → Some e ≡ entry_at s at → Inside (length s) at (Some e)
      → u ≡ played v.state v.memory s (at + 2) e.name_end e.from e.to → Playing s w u e.to
  playing-on e u p I q = record {
    inside = omega arith;
    turns = P.turns - 1;
    enough = omega (arith, P.enough);
    rest =
        P.rest
        ∙ turn-plays s at P.turns v.state v.memory e.name_end e.from e.to (omega (arith, P.enough)) p
        ∙ ap (play (calls_from (P.turns - 1) s e.to)) (sym q);
  }

-- ---- creation refused, and creation accepted

abbrev is_made : Created → Bool
is_made (Ok st) = true
is_made (Err e) = false

module _ (capacity seed size : ℕ) (m : Lent) (s : List ℕ) where
  -- both clauses of the contract
  abbrev Meets : Created → Lent → Type 0
  Meets r m' = (out r m' ≡ replay_of capacity seed size m s) × Replayed capacity seed size m s r m'

  abbrev on_created : CreateOut → Out
  on_created o = played_on o.answer o.table m s

  -- refused: by 1, and nothing has changed
  barred : (r : Refusal) (t : List ℕ) → Create·out (Err r) t ≡ created_on capacity seed size m → (b : Bool)
      → creatable capacity size (length m.table) (length m.keys) (length m.lists) ≡ b
      → Replayed capacity seed size m s (Err r) (lent t m.keys m.lists)
  barred r t p true e =
      let q = p ∙ create_made capacity seed size m.table (length m.keys) (length m.lists) e in
      absurd (false≢true (ap (λ (o : CreateOut). is_made o.answer) q))
  barred r t p false e =
      let q = p ∙ create_barred capacity seed size m.table (length m.keys) (length m.lists) e in
      let same : t ≡ m.table = ap (λ (o : CreateOut). o.table) q in
      let answer : ◌≡◌ {A = Created} (Err r) (Err NotCreatable) = ap (λ (o : CreateOut). o.answer) q in (
        sym p ∙ ap (Create·out (Err r)) same,
        cc,
        ap (λ (t : List ℕ). lent t m.keys m.lists) same,
      )

  pub replay_barred : (r : Refusal) (t : List ℕ) → Create·out (Err r) t ≡ created_on capacity seed size m
      → Meets (Err r) (lent t m.keys m.lists)
  replay_barred r t p = (
    ap on_created p,
    barred r t p (creatable capacity size (length m.table) (length m.keys) (length m.lists)) refl,
  )

  -- accepted: what the script's appends leave, so demand 3
  pub replay_made : (first : State) (t : List ℕ) (st : State) (m' : Lent)
      → Create·out (Ok first) t ≡ created_on capacity seed size m
      → world st m' ≡ play (calls_of s) (world first (lent t m.keys m.lists)) → Meets (Ok st) m'
  replay_made first t st m' p q =
      let w : World = world first (lent t m.keys m.lists) in
      let born : Born capacity seed size m.table m.keys m.lists w =
      record { made = sym p; keys_lent = refl; lists_lent = refl } in (
        ap left_by q ∙ ap on_created p,
        (
          w,
          born,
          q,
          λ name short.
              subst (λ (v : World). ReadsAs v name (joined name (calls_of s) w)) (sym q)
              (reads_back capacity seed size m.table m.keys m.lists w born (calls_of s) name
              (subst (λ (k : ℕ). length name ≤ name_limit_for k)
              (sym (born_size capacity seed size m.table m.keys m.lists w born)) short)),
        ),
      )

  -- what meets the second clause meets the first
  replayed_is : (r : Created) (m' : Lent) → Replayed capacity seed size m s r m'
      → out r m' ≡ replay_of capacity seed size m s
  replayed_is (Err e) m' P = ap (out (Err e)) P.2 ∙ sym (ap on_created P.0)
  replayed_is (Ok st) m' P =
      let first : World = world P.0.state (lent P.0.memory.table m.keys m.lists) in
      let lent_is : P.0 ≡ first =
      λ i. world P.0.state (lent P.0.memory.table (P.1.keys_lent i) (P.1.lists_lent i)) in
      ap left_by P.2 ∙ ap (λ (w : World). left_by (play (calls_of s) w)) lent_is ∙ sym (ap on_created P.1.made)

  -- "that two permitted outcomes coincide is itself proved"
  pub replay_settled : (r₁ r₂ : Created) (m₁ m₂ : Lent) → Replayed capacity seed size m s r₁ m₁
      → Replayed capacity seed size m s r₂ m₂ → out r₁ m₁ ≡ out r₂ m₂
  replay_settled r₁ r₂ m₁ m₂ P Q = replayed_is r₁ m₁ P ∙ sym (replayed_is r₂ m₂ Q)
