-- The theorem, from demand 3 and the round trip. Assumes nothing.
use Prim.Native.Nat.{ℕ, zero, suc, ◌+◌, ◌*◌, ◌≤◌, ◌<◌}
use mathlib.Core.Path.{◌≡◌, refl, sym, ap, ◌∙◌, subst}
use mathlib.Core.Logic.{⊎_elim}
use mathlib.Core.Bool.{Bool, true, false}
use mathlib.Core.Option.{Option, none, some}
use mathlib.Core.List.{List, [], ◌∷◌, map}
use native.Mathlib.Omega.{arith}
use lib.ListN.{length, length-map}
use borrow.Author.Tests.{le-leb, lt-leb}
use Rattle.limits.specs.Limits.{name_limit, bucket_limit, name-within}
use Rattle.numbers.specs.LittleEndian.{Bytes}
use Rattle.spans.specs.Span.{read_span, overwrite}
use Rattle.spans.proofs.Laws.{read_written}
use Rattle.records.specs.Record.{key_at, header_of}
use Rattle.expull_walk.specs.Blocks.{lane_bytes}
use Rattle.store_look.specs.declared.Lookup.TheVariants.{At}
use Rattle.store_look.specs.declared.Listed.{Listed}
use Rattle.store_look.specs.declared.Listed.TheVariants.{Bucket, NoMore, Stopped}
use Rattle.store_state.specs.Name.{name_limit_of}
use Rattle.store_look.specs.Look.{checked, blocks_sound, lookup_of, next_of}
use Rattle.store_state.proofs.Whole.{whole_facts, buckets_few}
use Rattle.history_names.specs.Listing.{times}
use Rattle.history.specs.History.{World, Call, Born, play, joined, among, accepted_names}
use Rattle.history.specs.Promises.{listed_on, listed_from, listed_places, listed_names, ReadsAs}
use Rattle.history.specs.Demand.{Demand3}
use Rattle.history.proofs.Demand.{demand_3}
use Rattle.report_text.specs.Text.{Lane, total_of, report_text}
use Rattle.report_text.specs.Reader.{lanes, text_read}
use Rattle.report_text.specs.Reportable.{EachFits, Reportable}
use Rattle.report_text.proofs.Round.{round_trip}
use Rattle.report_text.proofs.Values.{below_or}
use Rattle.report_read.specs.Counted.{checked_of}
use Rattle.report_lanes.specs.Lanes.{gathered, lane_at, on_listed, gather_from, gather_all}
use Rattle.report_lanes.proofs.Measuring.{sound-lane_most}
use Rattle.std.specs.Prelude.{Ok}
use Rattle.report.specs.Report.{Out, out, on_gathered, report_of}
use Rattle.report_history.specs.Promises.{EachJoined, ReportsBack}
use Rattle.report_history.proofs.Bytes.{bytes_key, bytes-lane}
use Rattle.report_history.proofs.Names.{names_of, unseen}

-- the call, by what is gathered
report_is : (w : World) (ls : List Lane) (output : List ℕ) → checked w.state w.memory ≡ true
    → gather_all w.state w.memory ≡ gathered ls → report_of w.state w.memory output
    ≡ on_gathered (gathered ls) output
unfolding report_of
report_is w ls output c e = rw (c, e)

module _ (w : World) (calls : List Call) (D : Demand3 w calls) where
  abbrev pub now : World
  now = play calls w

  -- ---- one lane that is listed

  -- what its record holds: its name's accepted appends, joined
  pub record Holds (at : ℕ) : Type 0 where
    pub sound : blocks_sound now.state now.memory at ≡ true
    pub short : length (key_at now.memory.keys at) ≤ name_limit
    pub own : joined (key_at now.memory.keys at) calls w ≡ some (lane_at now.memory at).bytes

  short_name : (at : ℕ) → lookup_of now.state now.memory (key_at now.memory.keys at) ≡ At at
      → length (key_at now.memory.keys at) ≤ name_limit_of w.state
  short_name at e =
      ⊎_elim
      (λ (h : name_limit_of w.state < length (key_at now.memory.keys at)).
      let f = (D.long_never (key_at now.memory.keys at) h).1 in
      let z : ◌≡◌ {A = ℕ} 0 1 = cc in absurd (omega arith))
      (λ (h : length (key_at now.memory.keys at) ≤ name_limit_of w.state). h)
      (below_or (name_limit_of w.state) (length (key_at now.memory.keys at)))

  holds : (at : ℕ) → lookup_of now.state now.memory (key_at now.memory.keys at) ≡ At at → Holds at
  unfolding lane_at
  holds at e = go (joined k calls w) refl (D.reads_back k (short_name at e))
    where
      k : List ℕ
      k = key_at now.memory.keys at

      go : (o : Option (List ℕ)) → joined (key_at now.memory.keys at) calls w ≡ o
          → ReadsAs now (key_at now.memory.keys at) o → Holds at
      go none p R = let q = R.missed in let z : ◌≡◌ {A = ℕ} 0 1 = cc in absurd (omega arith)
      go (some bs) p R =
          let q = R.found in
          let z : R.place ≡ at = cc in
          record {
            sound = subst (λ (x : ℕ). blocks_sound now.state now.memory x ≡ true) z R.blocks-good;
            short = omega (arith, short_name at e, name-within w.state.key_arena.size);
            own =
                p ∙ ap some (sym (subst
                (λ (x : ℕ). lane_bytes now.memory.lists (header_of now.memory.keys x) ≡ bs) z R.blocks_hold));
          }

  listed_holds : (i b at : ℕ) → next_of now.state now.memory i ≡ Bucket b at → Holds at
  listed_holds i b at e = holds at (D.names-exact.listed_there i b at e)

  -- ---- all of them

  abbrev pub lanes_from : ℕ → ℕ → List Lane
  lanes_from n i = map (lane_at now.memory) (listed_from now n i)

  abbrev pub all : List Lane
  all = map (lane_at now.memory) (listed_places now)

  pub gathers : (n i : ℕ) → gather_from now.state now.memory n i ≡ gathered (lanes_from n i)
  unfolding gather_from listed_from
  gathers zero i = refl
  gathers (suc n) i = go (next_of now.state now.memory i) refl (gathers n)
    where
      go : (x : Listed) → next_of now.state now.memory i ≡ x
          → ((j : ℕ) → gather_from now.state now.memory n j ≡ gathered (lanes_from n j))
          → on_listed x now.state now.memory (λ j. gather_from now.state now.memory n j)
          ≡ gathered (map (lane_at now.memory) (listed_on x (λ j. listed_from now n j)))
      go (Bucket b at) e f = rw ((listed_holds i b at e).sound, f (b + 1))
      go NoMore e f = refl
      go (Stopped k) e f = absurd (D.names-exact.unstopped i k e)

  -- of each place that is listed
  each-place : (P : ℕ → Type 0) → ((i b at : ℕ) → next_of now.state now.memory i ≡ Bucket b at → P at)
      → (Q : List ℕ → Type 0) → Q [] → ((at : ℕ) (ps : List ℕ) → P at → Q ps → Q (at ∷ ps)) → (n i : ℕ)
      → Q (listed_from now n i)
  unfolding listed_from
  each-place P f Q z s zero i = z
  each-place P f Q z s (suc n) i = go (next_of now.state now.memory i) refl (each-place P f Q z s n)
    where
      go : (x : Listed) → next_of now.state now.memory i ≡ x → ((j : ℕ) → Q (listed_from now n j))
          → Q (listed_on x (λ j. listed_from now n j))
      go (Bucket b at) e g = s at (listed_from now n (b + 1)) (f i b at e) (g (b + 1))
      go NoMore e g = z
      go (Stopped k) e g = z

  pub each-joined : EachJoined calls w all
  unfolding lane_at
  each-joined =
      each-place Holds listed_holds (λ ps. EachJoined calls w (map (lane_at now.memory) ps)) tt
      (λ at ps h r. (h.own, r)) now.state.buckets 0

  pub names_are : (ps : List ℕ) → names_of (map (lane_at now.memory) ps) ≡ map (key_at now.memory.keys) ps
  unfolding lane_at
  names_are [] = refl
  names_are (at ∷ ps) = ap (λ (l : List (List ℕ)). key_at now.memory.keys at ∷ l) (names_are ps)

  -- ---- which a report can hold

  once : (k : List ℕ) → times k (listed_names now) ≤ 1
  once k = go (among k (accepted_names calls w)) refl
    where
      go : (b : Bool) → among k (accepted_names calls w) ≡ b → times k (listed_names now) ≤ 1
      go true e = omega (arith, D.names-exact.each_once k e)
      go false e = omega (arith, D.names-exact.no_other k e)

  many : (n i : ℕ) → length (listed_from now n i) ≤ n
  unfolding listed_from
  many zero i = omega arith
  many (suc n) i = go (next_of now.state now.memory i) (many n)
    where
      go : (x : Listed) → ((j : ℕ) → length (listed_from now n j) ≤ n)
          → length (listed_on x (λ j. listed_from now n j)) ≤ suc n
      go (Bucket b at) f = omega (arith, f (b + 1))
      go NoMore f = omega arith
      go (Stopped k) f = omega arith

  total_most : total_of all ≤ 4587094008 * length (listed_places now)
  unfolding total_of
  total_most =
      each-place Holds listed_holds
      (λ ps. total_of (map (lane_at now.memory) ps) ≤ 4587094008 * length ps) (omega arith)
      (λ at ps h r. omega (arith, r, sound-lane_most now.state now.memory at D.whole h.sound))
      now.state.buckets 0

  module _ (key_bytes_lem : Bytes now.memory.keys) (list_bytes_lem : Bytes now.memory.lists) where
    each_fits : EachFits all
    unfolding lane_at
    each_fits =
        each-place Holds listed_holds (λ ps. EachFits (map (lane_at now.memory) ps)) tt
        (λ at ps h r. (
          record {
            short = h.short;
            name_bytes = bytes_key now.memory.keys at key_bytes_lem;
            all-bytes = bytes-lane now.memory.lists (header_of now.memory.keys at) list_bytes_lem;
          },
          r,
        ))
        now.state.buckets 0

    reportable : Reportable all
    reportable =
        let W = whole_facts now.state (length now.memory.table) (length now.memory.keys)
        (length now.memory.lists) D.whole in
        let l : length all ≡ length (listed_places now) = length-map (listed_places now) (lane_at now.memory) in
        let f : length all ≤ bucket_limit =
        omega (arith, l, many now.state.buckets 0, buckets_few now.state _ _ _ W) in
        record {
          each = each_fits;
          distinct =
              unseen [] all
              (λ k. subst (λ (ns : List (List ℕ)). times k ns ≤ 1) (sym (names_are (listed_places now))) (once k));
          few = omega arith;
          small = omega (arith, total_most, l);
        }

    text_back : text_read (report_text all) ≡ lanes all
    text_back = round_trip all reportable

  written : (output : List ℕ) → length (report_text all) ≤ length output
      → report_of now.state now.memory output
      ≡ out (Ok (length (report_text all))) (overwrite 0 (report_text all) output)
  written output l =
      report_is now all output D.whole (gathers now.state.buckets 0)
      ∙ rw (le-leb (length (report_text all)) (length output) l)

  pub told_back : ReportsBack w calls all
  told_back = record {
    listed = names_are (listed_places now);
    each = each-joined;
    written = written;
    unwritten = λ output l.
        report_is now all output D.whole (gathers now.state.buckets 0)
        ∙ rw (lt-leb (length (report_text all)) (length output) l);
    read_back = λ kb lb output l.
        ap (λ (o : Out). text_read (read_span 0 (length (report_text all)) o.output)) (written output l)
        ∙ ap text_read (read_written 0 (report_text all) output (omega arith))
        ∙ text_back kb lb;
    checks = λ kb lb. ap checked_of (text_back kb lb);
  }

-- ONE: a report of a store with a history reads back as the same lanes in order
pub reports_back : (capacity seed size : ℕ) (table keys lists : List ℕ) (w : World)
    → Born capacity seed size table keys lists w
    → (calls : List Call) → (ls : List Lane) × ReportsBack w calls ls
reports_back capacity seed size table keys lists w B calls =
    let D = demand_3 capacity seed size table keys lists w B calls in
    (map (lane_at (play calls w).memory) (listed_places (play calls w)), told_back w calls D)
