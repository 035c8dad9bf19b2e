-- Laws of the writer's first pass. Assumes nothing.
use Prim.Native.Nat.{ℕ, zero, suc, ◌+◌, ◌-◌, ◌*◌, ◌/◌, ◌%◌, ◌≤◌, ◌<◌}
use mathlib.Core.Path.{◌≡◌, refl, sym, ap, ◌∙◌, subst}
use mathlib.Core.Bool.{Bool, true, false, cond, ◌&&◌}
use mathlib.Core.List.{List, [], ◌∷◌, ◌++◌}
use native.Mathlib.Omega.{arith}
use lib.Dec.{leb, ltb}
use lib.ListN.{length, length-append}
use Rattle.limits.specs.Limits.{record_extra, bucket_limit}
use Rattle.numbers.proofs.Tests.{both}
use Rattle.spans.specs.Span.{overwrite}
use Rattle.spans.proofs.Laws.{length_span}
use Rattle.std.specs.Prelude.{Option, Some, None}
use Rattle.shared_arena_hashmap.specs.declared.Occupied.{Occupied}
use Rattle.shared_arena_hashmap.specs.Buckets.{empty_at, address_at}
use Rattle.records.specs.Record.{key_length, key_at, good_record, value_place, header_of, header_sound}
use Rattle.shared_arena_hashmap.specs.Probe.{occupied_by, occupied_from}
use Rattle.records.proofs.Laws.{good-record-in, head-found, head-sound}
use Rattle.expull_header.specs.Header.{sound_header, lane_length, block_count}
use Rattle.expull_walk.specs.Blocks.{good_blocks, lane_bytes}
use Rattle.expull_header.proofs.Laws.{length_most}
use Rattle.expull_walk.proofs.Laws.{lane-bytes-length}
use Rattle.store_state.specs.declared.State.{State}
use Rattle.store_look.specs.declared.Outcome.TheVariants.{Reading}
use Rattle.store_look.specs.declared.Answer.{Answer}
use Rattle.store_look.specs.declared.Answer.TheVariants.{Found, Refused}
use Rattle.store_look.specs.declared.Listed.{Listed}
use Rattle.store_look.specs.declared.Listed.TheVariants.{Bucket, NoMore, Stopped}
use Rattle.store_state.specs.State.{first_of}
use Rattle.store_look.specs.Look.{Lent, checked, blocks_sound, Read, reading, read_at, on_next, next_of}
use Rattle.store_look.proofs.Found.{next-on}
use Rattle.store_state.proofs.Whole.{whole_facts, buckets_few}
use Rattle.report_text.specs.Text.{Lane as TextLane, digits, decimal, total_of, lane_text, lanes_text}
use Rattle.report_text.proofs.Values.{hex-length}
use Rattle.std.specs.Prelude.{Some, None, Result, Ok, Err, IfOk}
use Rattle.limits.specs.declared.Refusal.{Refusal}
use Rattle.limits.specs.declared.Refusal.TheVariants.{Damage}
use Rattle.report_lanes.specs.declared.MetLane.{MetLane}
use Rattle.report_lanes.specs.declared.Sums.{Sums}
use Rattle.report_lanes.specs.Lanes.{Gathered, gathered, halted, lane_before, lane_at, on_listed, gather_from}
use Rattle.report_lanes.specs.Lanes.{gather_all, stopped_by}
use Rattle.report_lanes.specs.Measure.{Standing, on_answer, met_lane, met_of, some_lane, on_next_lane, next_lane_of, lane_size}
use Rattle.report_lanes.specs.Measure.{sums, measured_of, Small, Few}

-- ---- the record at a place

-- what is made of the length that was told
abbrev met_with : ℕ → ℕ → ℕ → Result ℕ Refusal → Result MetLane Refusal
met_with i at name (Ok n) = Ok (met_lane i at name n)
met_with i at name (Err k) = Err k

module _ (st : State) (m : Lent) (i at : ℕ) where
  -- what a reading into no output tells is whether the lane is sound, and its length
  met_is : (r : Answer) (o : List ℕ) → reading r o ≡ read_at st m at []
      → met_with i at (key_length m.keys at) (on_answer r) ≡ met_of st m i at
  unfolding met_of read_at
  met_is r o e =
      ap (λ (x : Read). met_with i at (key_length m.keys at) (on_answer x.answer)) e
      ∙ go (blocks_sound st m at) (leb (lane_length (header_of m.keys at)) 0)
    where
      go : (b t : Bool)
          → met_with i at (key_length m.keys at)
          (on_answer (cond b (cond t (reading (Found (Reading (lane_length (header_of m.keys at))))
          (overwrite 0 (lane_bytes m.lists (header_of m.keys at)) []))
          (reading (Refused 8 (lane_length (header_of m.keys at))) [])) (reading (Refused 4 0) [])).answer)
          ≡ cond b (Ok (met_lane i at (key_length m.keys at) (lane_length (header_of m.keys at)))) (Err Damage)
      go true true = refl
      go true false = refl
      go false t = refl

  module _ (r : Answer) (o : List ℕ) (e : reading r o ≡ read_at st m at []) where
    pub met_good : (n : ℕ) → Ok n ≡ on_answer r → Ok (met_lane i at (key_length m.keys at) n) ≡ met_of st m i at
    met_good n p = ap (met_with i at (key_length m.keys at)) p ∙ met_is r o e

    pub met_bad : (k : Refusal) → Err k ≡ on_answer r → Err k ≡ met_of st m i at
    met_bad k p = ap (met_with i at (key_length m.keys at)) p ∙ met_is r o e

  pub met-small : i < st.buckets → key_length m.keys at < 65536 → IfOk (met_of st m i at) (Small st.buckets)
  unfolding met_of blocks_sound
  met-small h k = go (header_sound m.keys at) refl
      (good_blocks st.list_arena m.lists (header_of m.keys at).head (block_count (header_of m.keys at)))
    where
      go : (a : Bool) → header_sound m.keys at ≡ a → (b : Bool)
          → IfOk (cond (a && b) (Ok (met_lane i at (key_length m.keys at) (lane_length (header_of m.keys at))))
          (Err Damage)) (Small st.buckets)
      go true e true = (
        h,
        k,
        length_most (header_of m.keys at)
            (head-found m.keys at (header_of m.keys at) (head-sound m.keys at e)).ends,
      )
      go true e false = tt
      go false e b = tt

-- ---- the next one

occupied-within : (t : List ℕ) (first n i : ℕ) (o : Occupied) → occupied_from t first n i ≡ Some o
    → (i ≤ o.bucket) × (o.bucket < i + n)
unfolding occupied_from
occupied-within t first zero i o e = cc
occupied-within t first (suc n) i o e = go (empty_at t (first + i)) (occupied-within t first n (i + 1) o) e
  where
    go : (b : Bool) → (occupied_from t first n (i + 1) ≡ Some o → (i + 1 ≤ o.bucket) × (o.bucket < i + 1 + n))
        → cond b (occupied_from t first n (i + 1)) (Some (occupied_by i (address_at t (first + i)))) ≡ Some o
        → (i ≤ o.bucket) × (o.bucket < i + suc n)
    go true f e = let p = f e in (omega arith, omega arith)
    go false f e = let z : i ≡ o.bucket = cc in (omega arith, omega arith)

pub record ListedHeld (st : State) (m : Lent) (j at : ℕ) : Type 0 where
  pub below : j < st.buckets
  pub good : good_record st.key_arena m.keys at ≡ true
  pub in-keys : at + (key_length m.keys at + record_extra) ≤ length m.keys

pub next-held : (st : State) (m : Lent) (i j at : ℕ) → checked st m ≡ true → next_of st m i ≡ Bucket j at
    → ListedHeld st m j at
unfolding on_next
next-held st m i j at c e =
    go (occupied_from m.table (first_of st) (st.buckets - i) i) refl (sym (next-on st m i c) ∙ e)
  where
    made : (o : Occupied) → occupied_from m.table (first_of st) (st.buckets - i) i ≡ Some o → (b : Bool)
        → good_record st.key_arena m.keys o.place ≡ b
        → cond b (Bucket o.bucket o.place) (Stopped 4) ≡ Bucket j at → ListedHeld st m j at
    made o f true g e =
        let x : o.place ≡ at = cc in
        let y : o.bucket ≡ j = cc in
        let g' : good_record st.key_arena m.keys at ≡ true = rw x at g in
        record {
          below = omega (arith, occupied-within m.table (first_of st) (st.buckets - i) i o f);
          good = g';
          in-keys = good-record-in st.key_arena m.keys at
              (whole_facts st (length m.table) (length m.keys) (length m.lists) c).key_arena g';
        }
    made o f false g e = cc

    go : (x : Option Occupied) → occupied_from m.table (first_of st) (st.buckets - i) i ≡ x
        → on_next x st.key_arena m.keys ≡ Bucket j at → ListedHeld st m j at
    go (Some o) f e = made o f (good_record st.key_arena m.keys o.place) refl e
    go None f e = cc

pub value_in : (st : State) (m : Lent) (j at : ℕ) → ListedHeld st m j at → (at + 2 ≤ length m.keys)
    × (value_place m.keys at + 16 ≤ length m.keys)
unfolding value_place
value_in st m j at H = (omega (arith, H.in-keys), omega (arith, H.in-keys))

pub next_listed : (st : State) (m : Lent) (i : ℕ) (x : Listed) → next_of st m i ≡ x → next_lane_of st m i
    ≡ on_next_lane x st m
unfolding next_lane_of
next_listed st m i x e = rw e

-- ---- a lane's text

digits_most : (w n : ℕ) → length (digits w n) ≤ w
unfolding digits
digits_most zero n = omega arith
digits_most (suc w) n = go (ltb n 10) (digits_most w (n / 10))
  where
    go : (t : Bool) → length (digits w (n / 10)) ≤ w
        → length (cond t ((48 + n) ∷ []) (digits w (n / 10) ++ ((48 + n % 10) ∷ []))) ≤ suc w
    go true h = omega arith
    go false h = simp length-append (omega arith)

pub decimal_most : (n : ℕ) → length (decimal n) ≤ 18
decimal_most n = digits_most 18 n

pub lane-long : (a : TextLane) → length (lane_text a) ≡ lane_size (length a.name) (length a.bytes)
unfolding lane_text
lane-long a = simp (length-append, hex-length) (omega arith)

-- ---- gathering, turn by turn

sound-at : (keys : List ℕ) (at : ℕ) → header_sound keys at ≡ true → sound_header (header_of keys at) 0 ≡ true
sound-at keys at e = (head-found keys at (header_of keys at) (head-sound keys at e)).ends

lane-name : (st : State) (m : Lent) (at : ℕ) → at + (key_length m.keys at + record_extra) ≤ length m.keys
    → length (lane_at m at).name ≡ key_length m.keys at
unfolding lane_at key_at
lane-name st m at h = length_span (at + 2) (key_length m.keys at) m.keys (omega arith)

lane-bytes : (st : State) (m : Lent) (at : ℕ) → checked st m ≡ true → blocks_sound st m at ≡ true
    → length (lane_at m at).bytes ≡ lane_length (header_of m.keys at)
unfolding lane_at blocks_sound header_sound
lane-bytes st m at c q =
    let W = whole_facts st (length m.table) (length m.keys) (length m.lists) c in
    let p = both (header_sound m.keys at)
    (good_blocks st.list_arena m.lists (header_of m.keys at).head (block_count (header_of m.keys at))) q
    in
    lane-bytes-length st.list_arena m.lists (header_of m.keys at) W.list_arena
    (sound-at m.keys at p.0) p.1

gather_lane : (st : State) (m : Lent) (left index j at : ℕ) → 0 < left → next_of st m index ≡ Bucket j at
    → blocks_sound st m at ≡ true
    → gather_from st m left index ≡ lane_before (lane_at m at) (gather_from st m (left - 1) (j + 1))
unfolding gather_from
gather_lane st m left index j at l p q =
    let s : left ≡ suc (left - 1) = omega arith in
    ap (λ (k : ℕ). gather_from st m k index) s ∙ rw (p, q)

pub record Turn (st : State) (m : Lent) (left index : ℕ) (a : MetLane) : Type 0 where
  pub rest : gather_from st m left index ≡ lane_before (lane_at m a.at) (gather_from st m (left - 1) (a.bucket + 1))
  pub name_is : length (lane_at m a.at).name ≡ a.name
  pub bytes_is : length (lane_at m a.at).bytes ≡ a.bytes
  pub standing : Standing st m a.at a.bytes
  pub key_is : key_length m.keys a.at ≡ a.name

pub turn : (st : State) (m : Lent) (left index : ℕ) (a : MetLane) → checked st m ≡ true → 0 < left
    → next_lane_of st m index ≡ Ok (Some a)
    → Turn st m left index a
unfolding next_lane_of met_of
turn st m left index a c l e = go (next_of st m index) refl e
  where
    made : (j at : ℕ) → next_of st m index ≡ Bucket j at → (b : Bool) → blocks_sound st m at ≡ b
        → some_lane (cond b (Ok (met_lane j at (key_length m.keys at) (lane_length (header_of m.keys at)))) (Err Damage))
        ≡ Ok (Some a) → Turn st m left index a
    made j at p true q e =
        let x : met_lane j at (key_length m.keys at) (lane_length (header_of m.keys at)) ≡ a = cc in
        let H = next-held st m index j at c p in
        subst (Turn st m left index) x (record {
          rest = gather_lane st m left index j at l p q;
          name_is = lane-name st m at H.in-keys;
          bytes_is = lane-bytes st m at c q;
          standing = record {
            list_arena = (whole_facts st (length m.table) (length m.keys) (length m.lists) c).list_arena;
            length-in = (value_in st m j at H).0;
            value_in = (value_in st m j at H).1;
            sound = q;
            bytes_are = refl;
          };
          key_is = refl;
        })
    made j at p false q e = let z : ◌≡◌ {A = ℕ} 0 1 = cc in absurd (omega arith)

    go : (x : Listed) → next_of st m index ≡ x → on_next_lane x st m ≡ Ok (Some a) → Turn st m left index a
    go (Bucket j at) p e = made j at p (blocks_sound st m at) refl e
    go NoMore p e = let z : ◌≡◌ {A = ℕ} 0 1 = cc in absurd (omega arith)
    go (Stopped k) p e = let z : ◌≡◌ {A = ℕ} 0 1 = cc in absurd (omega arith)

-- the sums of more lanes in front
abbrev plus_of : ℕ → ℕ → ℕ → Result Sums Refusal → Result Sums Refusal
plus_of a b c (Ok s) = Ok (sums (a + s.lanes) (b + s.bytes) (c + s.text))
plus_of a b c (Err k) = Err k

plus_lane : (a b c : ℕ) (x : TextLane) (g : Gathered)
    → plus_of a b c (measured_of (lane_before x g))
    ≡ plus_of (a + 1) (b + length x.bytes) (c + lane_size (length x.name) (length x.bytes)) (measured_of g)
unfolding measured_of total_of lanes_text
plus_lane a b c x (gathered ls) =
    let p : a + suc (length ls) ≡ a + 1 + length ls = omega arith in
    let q : b + (length x.bytes + total_of ls) ≡ b + length x.bytes + total_of ls = omega arith in
    let r : c + length (lane_text x ++ lanes_text ls)
    ≡ c + lane_size (length x.name) (length x.bytes) + length (lanes_text ls) =
    omega (arith, length-append (lane_text x) (lanes_text ls), lane-long x) in
    λ i. Ok (sums (p i) (q i) (r i))
plus_lane a b c x (halted n) = refl

pub record Measuring (st : State) (m : Lent) (left index lanes bytes text : ℕ) : Type 0 where
  pub turns : lanes + left ≡ st.buckets
  pub bytes_le : bytes ≤ lanes * 4587094008
  pub text_le : text ≤ lanes * 10000000000
  pub whole : measured_of (gather_all st m) ≡ plus_of lanes bytes text (measured_of (gather_from st m left index))

pub measuring_starts : (st : State) (m : Lent) → Measuring st m st.buckets 0 0 0 0
measuring_starts st m = record {
  turns = omega arith;
  bytes_le = omega arith;
  text_le = omega arith;
  whole = none
      (measured_of (gather_all st m));
}
  where
    none : (x : Result Sums Refusal) → x ≡ plus_of 0 0 0 x
    none (Ok s) =
        let p : s.lanes ≡ 0 + s.lanes = omega arith in
        let q : s.bytes ≡ 0 + s.bytes = omega arith in
        let r : s.text ≡ 0 + s.text = omega arith in
        λ i. Ok (sums (p i) (q i) (r i))
    none (Err k) = refl

pub measuring-few : {st : State} {m : Lent} {left index lanes bytes text : ℕ}
    → Measuring st m left index lanes bytes text → checked st m ≡ true → lanes + left ≤ bucket_limit
measuring-few {st} {m} M c =
    omega (
      arith,
      M.turns,
      buckets_few st _ _ _
          (whole_facts st (length m.table) (length m.keys) (length m.lists) c),
    )

pub measuring-on : {st : State} {m : Lent} {left index lanes bytes text : ℕ}
    → Measuring st m left index lanes bytes text → checked st m ≡ true → 0 < left
    → (a : MetLane) (size : ℕ) → next_lane_of st m index ≡ Ok (Some a) → a.bytes ≤ 4587094008
    → size ≡ lane_size a.name a.bytes → size ≤ 10000000000
    → (rest : ℕ) → rest ≡ left - 1
    → Measuring st m rest (a.bucket + 1) (lanes + 1) (bytes + a.bytes) (text + size)
measuring-on {st} {m} {left} {index} {lanes} {bytes} {text} M c l a size e k f g rest h =
    let T = turn st m left index a c l e in
    let s : lane_size (length (lane_at m a.at).name) (length (lane_at m a.at).bytes) ≡ size =
    (λ i. lane_size (T.name_is i) (T.bytes_is i)) ∙ sym f in
    record {
      turns = omega (arith, M.turns);
      bytes_le = omega (arith, M.bytes_le);
      text_le = omega (arith, M.text_le);
      whole =
          M.whole ∙ ap (λ (x : Gathered). plus_of lanes bytes text (measured_of x)) T.rest
          ∙ plus_lane lanes bytes text (lane_at m a.at) (gather_from st m (left - 1) (a.bucket + 1))
          ∙ (λ i. plus_of (lanes + 1) (bytes + T.bytes_is i) (text + s i)
          (measured_of (gather_from st m (sym h i) (a.bucket + 1))));
    }

-- where no lane follows, and where damage does
module _ (st : State) (m : Lent) (left index : ℕ) (l : 0 < left) where
  pub gather_none : next_lane_of st m index ≡ Ok None → gather_from st m left index ≡ gathered []
  unfolding gather_from next_lane_of met_of
  gather_none e =
      let s : left ≡ suc (left - 1) = omega arith in
      ap (λ (k : ℕ). gather_from st m k index) s ∙ go (next_of st m index) e
    where
      met : (j at : ℕ) (t : Bool)
          → some_lane (cond t (Ok (met_lane j at (key_length m.keys at) (lane_length (header_of m.keys at)))) (Err Damage))
          ≡ Ok None
          → cond t (lane_before (lane_at m at) (gather_from st m (left - 1) (j + 1))) (halted Damage) ≡ gathered []
      met j at true e = let z : ◌≡◌ {A = ℕ} 0 1 = cc in absurd (omega arith)
      met j at false e = let z : ◌≡◌ {A = ℕ} 0 1 = cc in absurd (omega arith)

      go : (y : Listed) → on_next_lane y st m ≡ Ok None
          → on_listed y st m (λ j. gather_from st m (left - 1) j) ≡ gathered []
      go (Bucket j at) e = met j at (blocks_sound st m at) e
      go NoMore e = refl
      go (Stopped k) e = let z : ◌≡◌ {A = ℕ} 0 1 = cc in absurd (omega arith)

  pub gather_halted : (k : Refusal) → next_lane_of st m index ≡ Err k → gather_from st m left index ≡ halted k
  unfolding gather_from next_lane_of met_of
  gather_halted k e =
      let s : left ≡ suc (left - 1) = omega arith in
      ap (λ (k : ℕ). gather_from st m k index) s ∙ go (next_of st m index) e
    where
      met : (j at : ℕ) (t : Bool)
          → some_lane (cond t (Ok (met_lane j at (key_length m.keys at) (lane_length (header_of m.keys at)))) (Err Damage))
          ≡ Err k
          → cond t (lane_before (lane_at m at) (gather_from st m (left - 1) (j + 1))) (halted Damage) ≡ halted k
      met j at true e = let z : ◌≡◌ {A = ℕ} 0 1 = cc in absurd (omega arith)
      met j at false e = let z : Damage ≡ k = cc in ap halted z

      go : (y : Listed) → on_next_lane y st m ≡ Err k
          → on_listed y st m (λ j. gather_from st m (left - 1) j) ≡ halted k
      go (Bucket j at) e = met j at (blocks_sound st m at) e
      go NoMore e = let z : ◌≡◌ {A = ℕ} 0 1 = cc in absurd (omega arith)
      go (Stopped n) e = let z : stopped_by n ≡ k = cc in ap halted z

module _ {st : State} {m : Lent} {left index lanes bytes text : ℕ} (M : Measuring st m left index lanes bytes text) where
  -- where none is left
  measuring_last : gather_from st m left index ≡ gathered [] → Ok (sums lanes bytes text) ≡ measured_of (gather_all st m)
  unfolding measured_of total_of lanes_text
  measuring_last e =
      let p : lanes + 0 ≡ lanes = omega arith in
      let q : bytes + 0 ≡ bytes = omega arith in
      let r : text + 0 ≡ text = omega arith in
      sym (M.whole ∙ ap (λ (x : Gathered). plus_of lanes bytes text (measured_of x)) e ∙ (λ i. Ok (sums (p i) (q i) (r i))))

  pub measuring_over : 0 < left → next_lane_of st m index ≡ Ok None
      → Ok (sums lanes bytes text) ≡ measured_of (gather_all st m)
  measuring_over l e = measuring_last (gather_none st m left index l e)

  pub measuring-ends : left ≡ 0 → Ok (sums lanes bytes text) ≡ measured_of (gather_all st m)
  unfolding gather_from
  measuring-ends z = measuring_last (ap (λ (k : ℕ). gather_from st m k index) z)

  pub measuring_halted : 0 < left → (k : Refusal) → next_lane_of st m index ≡ Err k
      → Err k ≡ measured_of (gather_all st m)
  unfolding measured_of
  measuring_halted l k e =
      sym (M.whole ∙ ap (λ (x : Gathered). plus_of lanes bytes text (measured_of x)) (gather_halted st m left index l k e))

-- where no lane follows in a store without damage, none is left
pub none_left : (st : State) (m : Lent) (left index : ℕ) (ls : List TextLane) → 0 < left
    → next_lane_of st m index ≡ Ok None → gather_from st m left index ≡ gathered ls → ls ≡ []
none_left st m left index ls l e g = let f = gather_none st m left index l e in cc

pub none_halted : (st : State) (m : Lent) (left index : ℕ) (ls : List TextLane) (k : Refusal) → 0 < left
    → next_lane_of st m index ≡ Err k → gather_from st m left index ≡ gathered ls → ⊥
none_halted st m left index ls k l e g =
    let f = gather_halted st m left index l k e in let z : ◌≡◌ {A = ℕ} 0 1 = cc in omega arith

pub none_more : (st : State) (m : Lent) (index : ℕ) (ls : List TextLane) → gather_from st m 0 index ≡ gathered ls → ls
    ≡ []
unfolding gather_from
none_more st m index ls g = cc

-- ---- the sums are few

pub few_sums : {st : State} {m : Lent} {left index lanes bytes text : ℕ} → Measuring st m left index lanes bytes text
    → checked st m ≡ true → Few (sums lanes bytes text)
few_sums M c = let f = measuring-few M c in (omega arith, omega (arith, M.bytes_le), omega (arith, M.text_le))

-- a lane that is no damage has no more bytes than a header can tell
pub sound-lane_most : (st : State) (m : Lent) (at : ℕ) → checked st m ≡ true → blocks_sound st m at ≡ true
    → length (lane_at m at).bytes ≤ 4587094008
unfolding blocks_sound
sound-lane_most st m at c q =
    let h = header_of m.keys at in
    let p = both (header_sound m.keys at) (good_blocks st.list_arena m.lists h.head (block_count h)) q in
    omega (arith, lane-bytes st m at c q, length_most h (sound-at m.keys at p.0))
