-- Document 02, Eight: "every store with a history as in demand 3 is called sound". Assumes nothing.
use Prim.Native.Nat.{ℕ}
use mathlib.Core.Path.{◌≡◌, ap}
use mathlib.Core.List.{List, [], ◌∷◌}
use native.Mathlib.Nat.{le_refl}
use lib.ListN.{length, replicate}
use borrow.Author.Tests.{le-leb, lt-leb}
use Rattle.memory_arena.specs.declared.Arena.{Arena}
use Rattle.shared_arena_hashmap.specs.Power.{rounded_down}
use Rattle.expull_header.specs.declared.Header.{Header}
use Rattle.history_lanes.specs.Lane.{wide_on, Stack, Tip, Lane}
use Rattle.history_lanes.proofs.Blocks.{clear_above}
use Rattle.history.specs.History.{World, Call, Born, play}
use Rattle.history.specs.Sound.{Ghosts, Sound}
use Rattle.history.proofs.Answers.{sound-records, header_is, header_fine}
use Rattle.history.proofs.Born.{nobody, born-sound}
use Rattle.history.proofs.Told.{Played, played}
use Rattle.brownout_faults.specs.declared.Checked.{Checked}
use Rattle.brownout_faults.specs.declared.Checked.TheVariants.{Sound as SaysSound}
use Rattle.brownout_faults.specs.Check.{verdict_of, marks_needed, out, check_of}
use Rattle.brownout_faults.proofs.Faults.{faultless_verdict}
use Rattle.brownout_kept.specs.Laid.{Own, Ends, Chain, Laid}
use Rattle.brownout_kept.proofs.Fine.{laid-faultless}
use Rattle.brownout_history.specs.Promises.{CalledSound}

-- ---- a store with a history lies well

-- blocks that lie one above the other share no place
stack-own : (ks : List ℕ) → Stack ks → Own ks
stack-own [] s = tt
stack-own (x ∷ ks) s = (clear_above x x (wide_on ks) ks (le_refl x) s.0, stack-own ks s.1)

tip-own : (h : Header) (ks : List ℕ) → Tip h ks → Own ks
tip-own h [] t = tt
tip-own h (x ∷ ks) t = stack-own (x ∷ ks) t.3

tip-ends : (h : Header) (ks : List ℕ) → Tip h ks → Ends h ks
tip-ends h [] t = t
tip-ends h (x ∷ ks) t = (t.0, t.1, t.2)

lane-chain : {m : List ℕ} {a : Arena} {h : Header} {ks : List ℕ} → Lane m a h ks → Chain m a h ks
lane-chain {m} {a} {h} {ks} L = record {
  number = L.number;
  links = L.links;
  below = L.below;
  paged = L.paged;
  ends = tip-ends h ks L.tip;
  own = tip-own h ks L.tip;
  stands = L.stands;
  short = L.short;
}

module _ {w : World} {G : Ghosts} (S : Sound w G) where
  sound-laid : Laid w.state w.memory (record { names = G.names; place = G.place; blocks = G.blocks })
  sound-laid = record {
    whole = S.whole;
    table = S.table;
    counted = S.counted;
    good = λ k M. (sound-records S k M).0;
    key = λ k M. (sound-records S k M).1;
    named = λ k M. (S.records k M).some;
    header = header_fine S;
    records_apart = S.records_apart;
    chain = λ k M. rw (header_is S k M) (lane-chain (S.lanes k M));
    chains_apart = S.lanes_apart;
  }

  sound_verdict : verdict_of w.state w.memory ≡ SaysSound
  sound_verdict = faultless_verdict w.state w.memory (laid-faultless sound-laid)

-- ---- the theorem

module _ (capacity seed size : ℕ) (table keys lists : List ℕ) (w : World)
    (B : Born capacity seed size table keys lists w) (calls : List Call) where
  P : Played w (nobody (rounded_down capacity)) calls
  P = played (born-sound capacity seed size table keys lists w B) calls

  -- EIGHT: every store with a history is called sound
  pub history_called-sound : CalledSound w calls
  unfolding check_of
  history_called-sound = record {
    called_sound = λ marks h.
        rw (P.sound.whole, le-leb (marks_needed (play calls w).memory) (length marks) h)
        (ap (λ (r : Checked). out r (replicate (length marks) 0)) (sound_verdict P.sound));
    too_short = λ marks h.
        rw (P.sound.whole, lt-leb (marks_needed (play calls w).memory) (length marks) h);
  }
