-- Laws of a join: one lane, and a turn of the loop. Assumes nothing.
use Prim.Native.Nat.{ℕ, suc, ◌+◌, ◌-◌, ◌≤◌, ◌<◌}
use mathlib.Core.Path.{◌≡◌, refl, sym, ap, ◌∙◌}
use mathlib.Core.Bool.{true}
use mathlib.Core.List.{List, ◌∷◌}
use native.Mathlib.Omega.{arith}
use lib.ListN.{length, take, drop}
use borrow.Author.Tests.{le-leb, lt-leb}
use Rattle.limits.specs.Limits.{bucket_limit}
use Rattle.spans.specs.Span.{read_span, overwrite}
use Rattle.spans.proofs.Laws.{read_written}
use Rattle.store_state.specs.declared.State.{State}
use Rattle.store_look.specs.declared.Answer.{Answer}
use Rattle.store_append.specs.declared.Appended.{Appended}
use Rattle.store_append.specs.declared.Appended.TheVariants.{Accepted, Declined}
use Rattle.store_look.specs.Look.{Lent, checked, reading, read_at}
use Rattle.store_append.specs.Append.{Out as AppendOut, out as Append·out, append_of}
use Rattle.store_state.proofs.Whole.{whole_facts, buckets_few}
use Rattle.report_text.specs.Text.{Lane}
use Rattle.std.specs.Prelude.{Option, Some, None, Result, Ok, Err}
use Rattle.limits.specs.declared.Refusal.{Refusal}
use Rattle.limits.specs.Refusals.{number_of}
use Rattle.report_lanes.specs.declared.MetLane.{MetLane}
use Rattle.report_lanes.specs.Lanes.{lane_at}
use Rattle.report_lanes.specs.Measure.{next_lane_of}
use Rattle.report_lanes.proofs.Measuring.{turn}
use Rattle.report.proofs.Written.{standing-lane, standing-read, lane_key, lane-own}
use Rattle.history.specs.History.{World}
use Rattle.join.specs.Join.{store, lane, told_on, told_from, told_by, out, whole, stopped, on_appended, join_lanes}
use Rattle.join.specs.Bring.{brought, bring_of, Ready, halted_of}

-- ---- one lane

pub bring_is : (w v : World) (at name n : ℕ) (s t : List ℕ) (r : Answer) (o : AppendOut) → Ready v at name n (length s)
    → reading r t ≡ read_at v.state v.memory at s
    → o ≡ append_of w.state w.memory (take (at + 2 + name - (at + 2)) (drop (at + 2) v.memory.keys))
    (take (n - 0) (drop 0 t))
    → brought o t ≡ bring_of w (lane_at v.memory at) s
unfolding bring_of read_span
bring_is w v at name n s t r o R e f =
    let S = R.standing in
    let a : Lane = lane_at v.memory at in
    let p : t ≡ overwrite 0 a.bytes s =
    standing-read v.state v.memory at n S r t s e R.fits
    ∙ ap (λ (b : List ℕ). overwrite 0 b s) (lane-own v.memory at) in
    let l : length a.bytes ≡ n =
    sym (ap length (lane-own v.memory at)) ∙ standing-lane v.state v.memory at n S in
    let z : n - 0 ≡ length a.bytes = omega (arith, l) in
    let q : take (n - 0) t ≡ a.bytes =
    ap (take (n - 0)) p ∙ ap (λ (k : ℕ). take k (overwrite 0 a.bytes s)) z
    ∙ read_written 0 a.bytes s (omega (arith, R.fits)) in
    (λ i. brought ((f ∙ (λ j. append_of w.state w.memory (lane_key v.memory at name R.named j) (q j))) i)
    (p i))

-- ---- a turn

module _ (v : World) (left index : ℕ) (w : World) (k : ℕ) (s : List ℕ) (some : 0 < left) where
  module _ (c : checked v.state v.memory ≡ true) (a : MetLane)
      (e : next_lane_of v.state v.memory index ≡ Ok (Some a)) where
    told-turn : told_from v left index ≡ lane (lane_at v.memory a.at) ∷ told_from v (left - 1) (a.bucket + 1)
    unfolding told_from
    told-turn =
        let z : left ≡ suc (left - 1) = omega arith in
        ap (λ (l : ℕ). told_from v l index) z ∙ ap (λ (x : Result (Option MetLane) Refusal). told_on x v.memory
        (λ i. told_from v (left - 1) i)) e

    pub met-ready : a.bytes ≤ length s → Ready v a.at a.name a.bytes (length s)
    met-ready h =
        let T = turn v.state v.memory left index a c some e in
        record { standing = T.standing; named = T.key_is; fits = h }

    bytes_are : length (lane_at v.memory a.at).bytes ≡ a.bytes
    bytes_are = (turn v.state v.memory left index a c some e).bytes_is

    -- too long for the scratch
    pub turn_short : length s < a.bytes → join_lanes (told_from v left index) w k s ≡ stopped 8 w k s
    unfolding join_lanes
    turn_short h = rw (told-turn, lt-leb (length (lane_at v.memory a.at).bytes) (length s) (omega (arith, bytes_are)))

    -- appended
    module _ (h : a.bytes ≤ length s) (r : Appended) (m : Lent) (t : List ℕ)
        (b : brought (Append·out r m) t ≡ bring_of w (lane_at v.memory a.at) s) where
      turn_on : join_lanes (told_from v left index) w k s
          ≡ on_appended r m k t (λ next. join_lanes (told_from v (left - 1) (a.bucket + 1)) next (k + 1) t)
      unfolding join_lanes bring_of
      turn_on =
          rw (told-turn, le-leb (length (lane_at v.memory a.at).bytes) (length s) (omega (arith, bytes_are)))
          (λ i. on_appended (sym b i).outcome.answer (sym b i).outcome.memory k (sym b i).scratch
          (λ next. join_lanes (told_from v (left - 1) (a.bucket + 1)) next (k + 1) (sym b i).scratch))

      pub turn_accepted : (st : State) → r ≡ Accepted st → join_lanes (told_from v left index) w k s
          ≡ join_lanes (told_from v (left - 1) (a.bucket + 1)) (store st m) (k + 1) t
      turn_accepted st q =
          turn_on ∙ ap (λ (r : Appended). on_appended r m k t
          (λ next. join_lanes (told_from v (left - 1) (a.bucket + 1)) next (k + 1) t)) q

      pub turn-declined : (st : State) (j : ℕ) → r ≡ Declined st j → join_lanes (told_from v left index) w k s
          ≡ out (halted_of r k) m t
      turn-declined st j q =
          turn_on ∙ ap (λ (r : Appended). on_appended r m k t
          (λ next. join_lanes (told_from v (left - 1) (a.bucket + 1)) next (k + 1) t)) q
          ∙ sym (ap (λ (r : Appended). out (halted_of r k) m t) q)

  -- no lane follows, or damage
  pub turn_over : next_lane_of v.state v.memory index ≡ Ok None → join_lanes (told_from v left index) w k s ≡ whole w k s
  unfolding told_from join_lanes
  turn_over e =
      let z : left ≡ suc (left - 1) = omega arith in
      ap (λ (l : ℕ). join_lanes (told_from v l index) w k s) z
      ∙ ap (λ (x : Result (Option MetLane) Refusal). join_lanes (told_on x v.memory (λ i. told_from v (left - 1) i)) w k s) e

  pub turn_broken : (r : Refusal) → next_lane_of v.state v.memory index ≡ Err r
      → join_lanes (told_from v left index) w k s ≡ stopped (number_of r) w k s
  unfolding told_from join_lanes
  turn_broken r e =
      let z : left ≡ suc (left - 1) = omega arith in
      ap (λ (l : ℕ). join_lanes (told_from v l index) w k s) z
      ∙ ap (λ (x : Result (Option MetLane) Refusal). join_lanes (told_on x v.memory (λ i. told_from v (left - 1) i)) w k s) e

-- none is left
pub turns_end : (v : World) (left index : ℕ) (w : World) (k : ℕ) (s : List ℕ) → left ≡ 0
    → join_lanes (told_from v left index) w k s ≡ whole w k s
unfolding told_from join_lanes
turns_end v left index w k s z = ap (λ (l : ℕ). join_lanes (told_from v l index) w k s) z

-- ---- the loop: what is left to join makes of the stores as they are now what all of it makes of them as they were

pub record Joining (v w₀ : World) (s₀ : List ℕ) (left index : ℕ) (w : World) (lanes : ℕ) (s : List ℕ) : Type 0 where
  pub turns : lanes + left ≡ v.state.buckets
  pub rest : join_lanes (told_by v) w₀ 0 s₀ ≡ join_lanes (told_from v left index) w lanes s
  pub table : length w.memory.table ≡ length w₀.memory.table
  pub keys : length w.memory.keys ≡ length w₀.memory.keys
  pub lists : length w.memory.lists ≡ length w₀.memory.lists
  pub scratch : length s ≡ length s₀

pub joining_starts : (v w : World) (s : List ℕ) → Joining v w s v.state.buckets 0 w 0 s
joining_starts v w s =
    record { turns = omega arith; rest = refl; table = refl; keys = refl; lists = refl; scratch = refl }

pub joining-few : {v w₀ : World} {s₀ : List ℕ} {left index : ℕ} {w : World} {lanes : ℕ} {s : List ℕ}
    → Joining v w₀ s₀ left index w lanes s → checked v.state v.memory ≡ true → lanes + left ≤ bucket_limit
joining-few {v} J c =
    omega (
      arith,
      J.turns,
      buckets_few v.state _ _ _
          (whole_facts v.state (length v.memory.table) (length v.memory.keys) (length v.memory.lists) c),
    )
