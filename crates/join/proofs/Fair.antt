-- Each refusal of a join has a number that document 02 lists for it. Assumes nothing.
use Prim.Native.Nat.{ℕ, zero, suc, ◌+◌}
use mathlib.Core.Path.{◌≡◌, refl, ap, ◌∙◌}
use mathlib.Core.Bool.{Bool, true, false, cond, ◌&&◌, ◌||◌, false≢true}
use mathlib.Core.List.{List, [], ◌∷◌}
use lib.Dec.{leb, eqb}
use lib.ListN.{length}
use borrow.Author.Tests.{eqb-true}
use Rattle.limits.specs.Refusals.{appending, joining, refusal_numbers, number_of, is_among, permitted}
use Rattle.numbers.proofs.Tests.{both}
use Rattle.spans.specs.Span.{overwrite}
use Rattle.records.specs.Record.{key_length, header_of}
use Rattle.expull_header.specs.Header.{lane_length}
use Rattle.store_append.specs.declared.Appended.{Appended}
use Rattle.store_append.specs.declared.Appended.TheVariants.{Accepted, Declined}
use Rattle.store_look.specs.declared.Listed.{Listed}
use Rattle.store_look.specs.declared.Listed.TheVariants.{Bucket, NoMore, Stopped}
use Rattle.store_append.specs.Said.{said_appended}
use Rattle.store_look.specs.Look.{checked, blocks_sound, next_of}
use Rattle.store_append.proofs.Fair.{fair-append}
use Rattle.std.specs.Prelude.{Option, Some, None, Result, Ok, Err}
use Rattle.limits.specs.declared.Refusal.{Refusal}
use Rattle.limits.specs.declared.Refusal.TheVariants.{NotWhole, Damage}
use Rattle.report_lanes.specs.declared.MetLane.{MetLane}
use Rattle.report_lanes.specs.Measure.{met_lane, some_lane, met_of, on_next_lane, next_lane_of}
use Rattle.history.specs.History.{World, append_in}
use Rattle.join.specs.Join.{store, Told, lane, broken, told_on, told_from, told_by, Out, stopped, on_appended}
use Rattle.join.specs.Join.{join_lanes, join_of}
use Rattle.join.specs.Said.{said_joined}

-- ---- numbers among numbers

all_among : List ℕ → List ℕ → Bool
all_among [] ms = true
all_among (n ∷ ns) ms = is_among n ms && all_among ns ms

among_wider : (ns ms : List ℕ) → all_among ns ms ≡ true → (k : ℕ) → is_among k ns ≡ true → is_among k ms ≡ true
unfolding all_among
among_wider [] ms e k a = absurd (false≢true a)
among_wider (n ∷ ns) ms e k a =
    let p = both (is_among n ms) (all_among ns ms) e in
    go (eqb k n) refl p.0 (among_wider ns ms p.1 k) a
  where
    go : (b : Bool) → eqb k n ≡ b → is_among n ms ≡ true → (is_among k ns ≡ true → is_among k ms ≡ true)
        → (b || is_among k ns) ≡ true → is_among k ms ≡ true
    go true q h f a = ap (λ (x : ℕ). is_among x ms) (eqb-true k n q) ∙ h
    go false q h f a = f a

append_wider : (k : ℕ) → is_among k (refusal_numbers appending) ≡ true → is_among k (refusal_numbers joining) ≡ true
unfolding all_among
append_wider k = among_wider (refusal_numbers appending) (refusal_numbers joining) refl k

-- ---- what the second store tells

FairNext : Result (Option MetLane) Refusal → Type 0
FairNext (Ok x) = Unit {0}
FairNext (Err k) = is_among (number_of k) (refusal_numbers joining) ≡ true

FairTold : List Told → Type 0
FairTold [] = Unit {0}
FairTold (lane a ∷ ls) = FairTold ls
FairTold (broken n ∷ ls) = is_among n (refusal_numbers joining) ≡ true

fair-met : (v : World) (i : ℕ) → FairNext (next_lane_of v.state v.memory i)
unfolding FairNext next_lane_of met_of
fair-met v i = go (next_of v.state v.memory i)
  where
    sound : (j at : ℕ) (b : Bool)
        → FairNext (some_lane (cond b (Ok (met_lane j at (key_length v.memory.keys at)
        (lane_length (header_of v.memory.keys at)))) (Err Damage)))
    sound j at true = tt
    sound j at false = refl

    stop : (b : Bool) → is_among (number_of (cond b NotWhole Damage)) (refusal_numbers joining) ≡ true
    stop true = refl
    stop false = refl

    go : (x : Listed) → FairNext (on_next_lane x v.state v.memory)
    go (Bucket j at) = sound j at (blocks_sound v.state v.memory at)
    go NoMore = tt
    go (Stopped n) = stop (eqb n 2)

fair-told : (v : World) (n i : ℕ) → FairTold (told_from v n i)
unfolding FairNext FairTold told_from
fair-told v zero i = tt
fair-told v (suc n) i = go (next_lane_of v.state v.memory i) (fair-met v i) (fair-told v n)
  where
    go : (x : Result (Option MetLane) Refusal) → FairNext x → ((j : ℕ) → FairTold (told_from v n j))
        → FairTold (told_on x v.memory (λ j. told_from v n j))
    go (Ok (Some a)) f ih = ih (a.bucket + 1)
    go (Ok None) f ih = tt
    go (Err k) f ih = f

-- ---- the join

abbrev Permitted : Out → Type 0
Permitted o = permitted joining (said_joined o.answer) ≡ true

fair-lanes : (ls : List Told) → FairTold ls → (w : World) (k : ℕ) (s : List ℕ) → Permitted (join_lanes ls w k s)
unfolding FairTold join_lanes
fair-lanes [] f w k s = refl
fair-lanes (broken n ∷ ls) f w k s = f
fair-lanes (lane a ∷ ls) f w k s =
    go (leb (length a.bytes) (length s)) (append_in w a.name a.bytes).answer
    (fair-append w.state w.memory a.name a.bytes).numbered
    (λ next. fair-lanes ls f next (k + 1) (overwrite 0 a.bytes s))
  where
    go : (b : Bool) (r : Appended) → permitted appending (said_appended r) ≡ true
        → ((next : World) → Permitted (join_lanes ls next (k + 1) (overwrite 0 a.bytes s)))
        → Permitted (cond b (on_appended r (append_in w a.name a.bytes).memory k (overwrite 0 a.bytes s)
        (λ next. join_lanes ls next (k + 1) (overwrite 0 a.bytes s))) (stopped 8 w k s))
    go true (Accepted st) p ih = ih (store st (append_in w a.name a.bytes).memory)
    go true (Declined st n) p ih = append_wider n p
    go false r p ih = refl

fair : (w v : World) (s : List ℕ) → Permitted (join_of w v s)
unfolding join_of
fair w v s = go (checked w.state w.memory && checked v.state v.memory)
  where
    go : (b : Bool) → Permitted (cond b (join_lanes (told_by v) w 0 s) (stopped 2 w 0 s))
    go true = fair-lanes (told_by v) (fair-told v v.state.buckets 0) w 0 s
    go false = refl

-- an outcome that meets the first clause of the contract meets the second
pub told : (w v : World) (s : List ℕ) (o : Out) → o ≡ join_of w v s → (o ≡ join_of w v s) × Permitted o
told w v s o e = (e, ap (λ (o : Out). permitted joining (said_joined o.answer)) e ∙ fair w v s)

-- ---- the call, by its checks

pub join_2 : (w v : World) (s : List ℕ) → (checked w.state w.memory ≡ false) → join_of w v s ≡ stopped 2 w 0 s
unfolding join_of
join_2 w v s e = rw e

pub join_2_second : (w v : World) (s : List ℕ) → checked w.state w.memory ≡ true
    → checked v.state v.memory ≡ false → join_of w v s ≡ stopped 2 w 0 s
unfolding join_of
join_2_second w v s e f = rw (e, f)

pub join_on : (w v : World) (s : List ℕ) → checked w.state w.memory ≡ true
    → checked v.state v.memory ≡ true → join_of w v s ≡ join_lanes (told_by v) w 0 s
unfolding join_of
join_on w v s e f = rw (e, f)
