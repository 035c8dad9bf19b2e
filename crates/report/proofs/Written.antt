-- Laws of the writer's second pass. Assumes nothing.
use Prim.Native.Nat.{ℕ, zero, suc, ◌+◌, ◌-◌, ◌*◌, ◌≤◌, ◌<◌}
use mathlib.Core.Path.{◌≡◌, refl, sym, ap, ◌∙◌}
use mathlib.Core.Bool.{true}
use mathlib.Core.List.{List, [], ◌∷◌, ◌++◌, append_assoc, append-nil}
use native.Mathlib.Omega.{arith}
use lib.ListN.{length, take, drop, length-append, length-take, length-drop}
use lib.Seq.{take_all}
use borrow.Author.Tests.{le-leb}
use borrow.Rule.Slice.PartMut.{put_mid}
use Rattle.numbers.proofs.Tests.{both}
use Rattle.spans.specs.Span.{read_span, overwrite}
use Rattle.spans.proofs.Laws.{length-overwrite, length_span, span_within, read_written, overwrite-all, overwrite-append}
use Rattle.spans.proofs.Laws.{overwrite_none, part_back}
use Rattle.expull_header.specs.Header.{lane_length, block_count}
use Rattle.expull_walk.specs.Blocks.{good_blocks, lane_bytes}
use Rattle.expull_walk.proofs.Laws.{lane-bytes-length}
use Rattle.store_state.specs.declared.State.{State}
use Rattle.store_look.specs.declared.Answer.{Answer}
use Rattle.records.specs.Record.{header_of, header_sound, key_length, key_at, value_place}
use Rattle.store_look.specs.Look.{Lent, checked, blocks_sound, Read, reading, read_at}
use Rattle.records.proofs.Laws.{head-found, head-sound}
use Rattle.report_text.specs.Text.{Lane as TextLane, newline, store_line, terms_word, total_word, head_text, term_word}
use Rattle.report_text.specs.Text.{len_word, bytes_word, hex, decimal, line, lane_text, lanes_text}
use Rattle.report_text.proofs.Values.{hex-length}
use Rattle.report_put.proofs.Laws.{line-long}
use Rattle.std.specs.Prelude.{Ok, Some}
use Rattle.report_lanes.specs.declared.MetLane.{MetLane}
use Rattle.report_lanes.specs.Lanes.{Gathered, gathered, halted, lane_before, lane_at, gather_from, gather_all}
use Rattle.report_lanes.specs.Measure.{next_lane_of, lane_size, Standing}
use Rattle.report.specs.Write.{lanes_met}
use Rattle.report_lanes.proofs.Measuring.{Turn, turn, lane-long}

-- what is written over wholly doesn't count
covered : (p q : ℕ) (bs cs m : List ℕ) → p ≤ q → q + length cs ≤ p + length bs → overwrite p bs (overwrite q cs m)
    ≡ overwrite p bs m
unfolding overwrite
covered zero zero [] [] m h k = refl
covered zero zero [] (c ∷ cs) m h k = absurd (omega arith)
covered zero zero (b ∷ bs) [] m h k = refl
covered zero zero (b ∷ bs) (c ∷ cs) [] h k = refl
covered zero zero (b ∷ bs) (c ∷ cs) (x ∷ m) h k = ap (λ (l : List ℕ). b ∷ l) (covered zero zero bs cs m h (omega arith))
covered zero (suc q) [] cs m h k = absurd (omega arith)
covered zero (suc q) (b ∷ bs) cs [] h k = refl
covered zero (suc q) (b ∷ bs) cs (x ∷ m) h k = ap (λ (l : List ℕ). b ∷ l)
    (covered zero q bs cs m (omega arith) (omega arith))
covered (suc p) zero bs cs m h k = absurd (omega arith)
covered (suc p) (suc q) bs cs [] h k = refl
covered (suc p) (suc q) bs cs (x ∷ m) h k = ap (λ (l : List ℕ). x ∷ l) (covered p q bs cs m (omega arith) (omega arith))

-- read to the second half of the room, then spread over all of it
pub spread_back : (m : List ℕ) (p n : ℕ) (bs x y : List ℕ) → length bs ≡ n → p + (n + n) ≤ length m
    → x ≡ overwrite 0 bs (take (p + n + n - (p + n)) (drop (p + n) m))
    → y ≡ hex (drop n (take (p + n + n - p) (drop p (put_mid (p + n) (p + n + n - (p + n)) m x))))
    → put_mid p (p + n + n - p) (put_mid (p + n) (p + n + n - (p + n)) m x) y ≡ overwrite p (hex bs) m
unfolding read_span
spread_back m p n bs x y l r e f =
    let k : p + n + n - (p + n) ≡ n = omega arith in
    let k2 : p + n + n - p ≡ n + n = omega arith in
    let lp : length (take (p + n + n - (p + n)) (drop (p + n) m)) ≡ n = simp (length-take, length-drop) (omega arith) in
    let ex : x ≡ bs = e ∙ overwrite-all bs (take (p + n + n - (p + n)) (drop (p + n) m)) (l ∙ sym lp) in
    let m1 = overwrite (p + n) bs m in
    let g : put_mid (p + n) (p + n + n - (p + n)) m x ≡ m1 =
    ap (put_mid (p + n) (p + n + n - (p + n)) m) ex
    ∙ part_back m (p + n) (p + n + n) bs (omega arith) (omega arith) (omega arith) in
    let l1 : length m1 ≡ length m = length-overwrite (p + n) bs m in
    let s : drop n (read_span p (n + n) m1) ≡ bs =
    sym (take_all n (drop n (read_span p (n + n) m1))
    (omega (arith, length-drop n (read_span p (n + n) m1), length_span p (n + n) m1 (omega arith))))
    ∙ span_within p (n + n) n n m1 (omega arith)
    ∙ ap (λ (j : ℕ). read_span (p + n) j m1) (sym l) ∙ read_written (p + n) bs m (omega arith) in
    let ey : y ≡ hex bs = f ∙ (λ i. hex (drop n (take (k2 i) (drop p (g i))))) ∙ ap hex s in
    (λ i. put_mid p (p + n + n - p) (g i) (ey i))
    ∙ part_back m1 p (p + n + n) (hex bs) (omega arith) (omega arith) (omega (arith, hex-length bs))
    ∙ covered p (p + n) (hex bs) bs m (omega arith) (omega (arith, hex-length bs))

-- ---- the bytes of a lane that stands

module _ (st : State) (m : Lent) (at n : ℕ) (S : Standing st m at n) where
  pub standing-lane : length (lane_bytes m.lists (header_of m.keys at)) ≡ n
  unfolding blocks_sound
  standing-lane =
      let h = header_of m.keys at in
      let p = both (header_sound m.keys at) (good_blocks st.list_arena m.lists h.head (block_count h))
      S.sound in
      lane-bytes-length st.list_arena m.lists h S.list_arena
      (head-found m.keys at h (head-sound m.keys at p.0)).ends p.1
      ∙ S.bytes_are

  -- its reading into room for it
  pub standing-read : (r : Answer) (o x : List ℕ) → reading r o ≡ read_at st m at x → n ≤ length x
      → o ≡ overwrite 0 (lane_bytes m.lists (header_of m.keys at)) x
  unfolding read_at
  standing-read r o x e h =
      ap (λ (y : Read). y.output) e
      ∙ rw (S.sound, le-leb (lane_length (header_of m.keys at)) (length x) (omega (arith, S.bytes_are)))

-- ---- one piece behind the other

pub record Put (p : ℕ) (m o done : List ℕ) (q : ℕ) : Type 0 where
  pub output : o ≡ overwrite p done m
  pub place : q ≡ p + length done

pub put_first : (p : ℕ) (m o bs : List ℕ) (q : ℕ) → o ≡ overwrite p bs m → q ≡ p + length bs → Put p m o bs q
put_first p m o bs q e f = record { output = e; place = f }

pub put_next : {p : ℕ} {m o done : List ℕ} {q : ℕ} → Put p m o done q → (o' bs : List ℕ) (r : ℕ)
    → o' ≡ overwrite q bs o → r ≡ q + length bs → Put p m o' (done ++ bs) r
put_next {p} {m} {o} {done} {q} P o' bs r e f = record {
  output = e ∙ (λ i. overwrite (P.place i) bs (P.output i)) ∙ sym (overwrite-append p done bs m);
  place = omega (arith, P.place, length-append done bs);
}

pub put-length : {p : ℕ} {m o done : List ℕ} {q : ℕ} → Put p m o done q → length o ≡ length m
put-length {p} {m} {o} {done} P = ap length P.output ∙ length-overwrite p done m

-- a lane's three lines make up its text; the last of them in three pieces
three : (a b w v n : List ℕ) → a ++ b ++ w ++ v ++ n ≡ a ++ (b ++ (w ++ (v ++ n)))
three a b w v n = simp append_assoc

pub lane-lines : (a : TextLane) (k bs : List ℕ) (n : ℕ) → k ≡ a.name → n ≡ length a.bytes → bs ≡ a.bytes
    → line term_word (hex k) ++ line len_word (decimal n) ++ bytes_word ++ hex bs ++ (newline ∷ []) ≡ lane_text a
unfolding lane_text
lane-lines a k bs n e f g =
    (λ i. line term_word (hex (e i)) ++ line len_word (decimal (f i)) ++ bytes_word ++ hex (g i) ++ (newline ∷ []))
    ∙ three (line term_word (hex a.name)) (line len_word (decimal (length a.bytes))) bytes_word (hex a.bytes)
    (newline ∷ [])

-- ---- its name and its bytes

pub standing_key : {st : State} {m : Lent} {at n name : ℕ} → Standing st m at n → key_length m.keys at ≡ name
    → at + 2 + name ≤ length m.keys
unfolding value_place
standing_key S e = omega (arith, S.value_in)

pub lane_key : (m : Lent) (at name : ℕ) → key_length m.keys at ≡ name
    → take (at + 2 + name - (at + 2)) (drop (at + 2) m.keys) ≡ (lane_at m at).name
unfolding lane_at key_at read_span
lane_key m at name e = let z : at + 2 + name - (at + 2) ≡ key_length m.keys at = omega arith in
    ap (λ (k : ℕ). take k (drop (at + 2) m.keys)) z

-- the part of the key pages that it is
pub key_size : (keys : List ℕ) (at name : ℕ) → at + 2 + name ≤ length keys
    → length (take (at + 2 + name - (at + 2)) (drop (at + 2) keys)) ≡ name
key_size keys at name h = simp (length-take, length-drop) (omega arith)

-- how long its line is
pub name_line : {st : State} {m : Lent} {at n name : ℕ} → Standing st m at n → key_length m.keys at ≡ name
    → length (line term_word (hex (take (at + 2 + name - (at + 2)) (drop (at + 2) m.keys)))) ≡ 6 + 2 * name
name_line {m = m} {at = at} {name = name} S e =
    let k = take (at + 2 + name - (at + 2)) (drop (at + 2) m.keys) in
    omega (arith, line-long term_word (hex k), hex-length k, key_size m.keys at name (standing_key S e))

pub lane-own : (m : Lent) (at : ℕ) → lane_bytes m.lists (header_of m.keys at) ≡ (lane_at m at).bytes
unfolding lane_at
lane-own m at = refl

-- ---- all lanes

lanes_end : (ls : List TextLane) (a : TextLane) → lanes_text (ls ++ (a ∷ [])) ≡ lanes_text ls ++ lane_text a
unfolding lanes_text
lanes_end [] a = append-nil (lane_text a)
lanes_end (b ∷ ls) a = ap (λ (t : List ℕ). lane_text b ++ t) (lanes_end ls a)
    ∙ sym (append_assoc (lane_text b) (lanes_text ls) (lane_text a))

lanes_join : (ls ks : List TextLane) → length (lanes_text (ls ++ ks)) ≡ length (lanes_text ls) + length (lanes_text ks)
unfolding lanes_text
lanes_join [] ks = omega arith
lanes_join (a ∷ ls) ks = omega (
  arith,
  length-append (lane_text a) (lanes_text (ls ++ ks)),
  length-append (lane_text a)
      (lanes_text ls),
  lanes_join ls ks,
)

lanes_cons : (a : TextLane) (ls : List TextLane) → length (lanes_text (a ∷ ls))
    ≡ length (lane_text a) + length (lanes_text ls)
unfolding lanes_text
lanes_cons a ls = length-append (lane_text a) (lanes_text ls)

lanes_none : lanes_text [] ≡ []
unfolding lanes_text
lanes_none = refl

-- some lanes are written, and the rest is still to be met
pub record Lanes (st : State) (m : Lent) (from : ℕ) (before : List ℕ) (left index p : ℕ) (o : List ℕ) : Type 0 where
  pub done : List TextLane
  pub rest : List TextLane
  pub all_are : lanes_met st m ≡ done ++ rest
  pub rest_is : gather_from st m left index ≡ gathered rest
  pub place : p ≡ from + length (lanes_text done)
  pub output : o ≡ overwrite from (lanes_text done) before

pub lanes_start : (st : State) (m : Lent) (from : ℕ) (before : List ℕ) → gather_all st m ≡ gathered (lanes_met st m)
    → Lanes st m from before st.buckets 0 from before
lanes_start st m from before e = record {
  done = [];
  rest = lanes_met st m;
  all_are = refl;
  rest_is = e;
  place = omega (arith, ap length lanes_none);
  output = sym (ap (λ (t : List ℕ). overwrite from t before) lanes_none ∙ overwrite_none from before);
}

pub lanes-length : {st : State} {m : Lent} {from : ℕ} {before : List ℕ} {left index p : ℕ} {o : List ℕ}
    → Lanes st m from before left index p o → length o ≡ length before
lanes-length {from =
    from} {before = before} L = ap length L.output ∙ length-overwrite from (lanes_text L.done) before

module _ {st : State} {m : Lent} {from : ℕ} {before : List ℕ} {left index p : ℕ} {o : List ℕ}
    (L : Lanes st m from before left index p o) (c : checked st m ≡ true) (l : 0 < left)
    (a : MetLane) (e : next_lane_of st m index ≡ Ok (Some a)) where
  T : Turn st m left index a
  T = turn st m left index a c l e

  tail : (g : Gathered) → gather_from st m (left - 1) (a.bucket + 1) ≡ g → lane_before (lane_at m a.at) g ≡ gathered L.rest
      → (ks : List TextLane) × (gather_from st m (left - 1) (a.bucket + 1) ≡ gathered ks) × (L.rest ≡ lane_at m a.at ∷ ks)
  tail (gathered ks) p q = (ks, p, cc)
  tail (halted k) p q = let z : ◌≡◌ {A = ℕ} 0 1 = cc in absurd (omega arith)

  next_ones : (ks : List TextLane) × (gather_from st m (left - 1) (a.bucket + 1) ≡ gathered ks) × (L.rest ≡ lane_at m a.at ∷ ks)
  next_ones = tail (gather_from st m (left - 1) (a.bucket + 1)) refl (sym T.rest ∙ L.rest_is)

  pub lane-stands : Standing st m a.at a.bytes × (key_length m.keys a.at ≡ a.name)
  lane-stands = (T.standing, T.key_is)

  size_is : length (lane_text (lane_at m a.at)) ≡ lane_size a.name a.bytes
  size_is = lane-long (lane_at m a.at) ∙ (λ i. lane_size (T.name_is i) (T.bytes_is i))

  pub lane_room : p + lane_size a.name a.bytes ≤ from + length (lanes_text (lanes_met st m))
  lane_room =
      omega (
        arith,
        L.place,
        ap (λ (ls : List TextLane). length (lanes_text ls)) L.all_are ∙ lanes_join L.done L.rest,
        ap (λ (ls : List TextLane). length (lanes_text ls)) next_ones.2 ∙ lanes_cons (lane_at m a.at) next_ones.0,
        size_is,
      )

  pub lanes_on : (o' : List ℕ) (q : ℕ) → o' ≡ overwrite p (lane_text (lane_at m a.at)) o → q ≡ p + lane_size a.name a.bytes
      → (rest : ℕ) → rest ≡ left - 1 → Lanes st m from before rest (a.bucket + 1) q o'
  lanes_on o' q f g rest h = record {
    done = L.done ++ (lane_at m a.at ∷ []);
    rest = next_ones.0;
    all_are = L.all_are ∙ ap (λ (ks : List TextLane). L.done ++ ks) next_ones.2
        ∙ sym (append_assoc L.done (lane_at m a.at ∷ []) next_ones.0);
    rest_is = ap (λ (k : ℕ). gather_from st m k (a.bucket + 1)) h ∙ next_ones.1;
    place = omega (
      arith,
      L.place,
      ap length (lanes_end L.done (lane_at m a.at))
          ∙ length-append (lanes_text L.done) (lane_text (lane_at m a.at)),
      size_is,
    );
    output =
        f ∙ (λ i. overwrite (L.place i) (lane_text (lane_at m a.at)) (L.output i))
        ∙ sym (overwrite-append from (lanes_text L.done) (lane_text (lane_at m a.at)) before)
        ∙ ap (λ (t : List ℕ). overwrite from t before) (sym (lanes_end L.done (lane_at m a.at)));
  }

pub lanes_over : {st : State} {m : Lent} {from : ℕ} {before : List ℕ} {left index p : ℕ} {o : List ℕ}
    → (L : Lanes st m from before left index p o) → L.rest ≡ []
    → (o ≡ overwrite from (lanes_text (lanes_met st m)) before) × (p ≡ from + length (lanes_text (lanes_met st m)))
lanes_over {st} {m} {from} {before} L e =
    let q : L.done ≡ lanes_met st m =
    sym (L.all_are ∙ ap (λ (ks : List TextLane). L.done ++ ks) e ∙ append-nil L.done) in (
      L.output ∙ ap (λ (ls : List TextLane). overwrite from (lanes_text ls) before) q,
      L.place
          ∙ ap (λ (ls : List TextLane). from + length (lanes_text ls)) q,
    )

-- ---- the head's lines make up its text

pub head-lines : (terms total : ℕ)
    → line store_line [] ++ line terms_word (decimal terms) ++ line total_word (decimal total) ≡ head_text terms total
unfolding head_text
head-lines terms total =
    append_assoc (line store_line []) (line terms_word (decimal terms)) (line total_word (decimal total))

pub head-long : (a b : ℕ) → length (head_text a b) ≡ 22 + length (decimal a) + length (decimal b)
unfolding head_text
head-long a b = simp length-append (omega arith)
