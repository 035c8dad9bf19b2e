-- Laws of a lane's parts. Assumes nothing.
use Prim.Native.Nat.{ℕ, zero, suc, ◌+◌, ◌-◌, ◌≤◌, ◌<◌}
use mathlib.Core.Path.{◌≡◌, refl, sym, ap, ◌∙◌, subst}
use mathlib.Core.Bool.{Bool, true, false, cond}
use Rattle.std.specs.Prelude.{Option, Some, None, Result, Ok, Err}
use mathlib.Core.List.{List, [], ◌∷◌, ◌++◌}
use native.Mathlib.Omega.{arith}
use lib.Dec.{ltb}
use lib.ListN.{length, take, drop, length-append}
use lib.Seq.{take_all, drop-append_seam}
use borrow.Author.Tests.{lt-ltb, le-ltb}
use Rattle.limits.specs.Refusals.{unreporting, permitted}
use Rattle.spans.specs.Span.{read_span}
use Rattle.spans.proofs.Laws.{span_within}
use Rattle.report_text.specs.Text.{Lane, term_word, bytes_word, hex}
use Rattle.report_text.specs.Reader.{Told, lanes, bad, bytes_in, bytes_of, text_read}
use Rattle.report_text.proofs.Values.{hex_back}
use Rattle.report_text.proofs.Forms.{bytes_form}
use Rattle.report_read.specs.declared.check.Lanes.{Lanes}
use Rattle.report_read.specs.declared.check.BadLine.{BadLine}
use Rattle.report_read.specs.declared.pick.Lane.{Lane as Places}
use Rattle.report_read.specs.Lines.{line_length, line_end, line_at, next_line, next_lane, lanes_on, first_lane}
use Rattle.report_read.specs.Counted.{checked_of}
use Rattle.report_read.specs.Lane.{bytes_line, places, parts_at, on_told, lane_of}
use Rattle.report_read.specs.Pick.{PartsIn}
use Rattle.report_read.specs.Said.{said_picked}
use Rattle.report_read.specs.Promises.{Parts}
use Rattle.report_read.proofs.Lines.{line-in, line-long, next-in}
use Rattle.report_read.proofs.Counted.{OneLane, LanesAt, lanes_stand}

-- ---- what stands behind a word

-- the length of a line of a word and a value
word_fits : (t : List ℕ) (at : ℕ) (w bs : List ℕ) → bytes_in w (line_at t at) ≡ Some bs
    → line_length (drop at t) ≡ length w + length (hex bs)
word_fits t at w bs e =
    sym (line-long t at) ∙ ap length (bytes_form w (line_at t at) bs e).0 ∙ length-append w (hex bs)

value_part : (t : List ℕ) (at : ℕ) (w bs : List ℕ) → bytes_in w (line_at t at) ≡ Some bs
    → bytes_of (read_span (at + length w) (line_length (drop at t) - length w) t) ≡ Some bs
unfolding read_span
value_part t at w bs e =
    let q = bytes_form w (line_at t at) bs e in
    let n = line_length (drop at t) - length w in
    let f : line_length (drop at t) ≡ length w + length (hex bs) = word_fits t at w bs e in
    let p : take n (drop (at + length w) t) ≡ hex bs =
    sym (span_within at (line_length (drop at t)) (length w) n t (omega arith))
    ∙ ap (λ (l : List ℕ). take n (drop (length w) l)) q.0
    ∙ ap (take n) (drop-append_seam w (hex bs))
    ∙ take_all n (hex bs) (omega arith) in
    ap bytes_of p ∙ hex_back bs q.1

module _ {t : List ℕ} {at : ℕ} {a : Lane} (o : OneLane t at a) where
  pub parts_in : PartsIn t at
  parts_in = record {
    within = o.within;
    term_fits = omega (arith, word_fits t at term_word a.name o.name);
    bytes_fits = omega (arith, word_fits t (bytes_line t at) bytes_word a.bytes o.bytes);
  }

  parts_are : (i : ℕ) → lane_of t i ≡ Ok (Some (parts_at t at)) → Parts t i a
  unfolding parts_at
  parts_are i e =
      let f = parts_in in
      let v = bytes_line t at in
      let b : v ≤ length t = next-in t (next_line t at) (next-in t at o.within) in
      record {
        name_from = at + 5;
        name-long = line_length (drop at t) - 5;
        bytes_from = v + 6;
        bytes_long = line_length (drop v t) - 6;
        picked = e;
        name-within = omega (arith, f.term_fits, line-in t at o.within);
        bytes_within = omega (arith, f.bytes_fits, line-in t v b);
        name_hex = value_part t at term_word a.name o.name;
        bytes_hex = value_part t v bytes_word a.bytes o.bytes;
      }

-- ---- the lane of an index

-- there is one below their number
lane_there : (t : List ℕ) (at : ℕ) (ls : List Lane) (i : ℕ) → LanesAt t at ls → i < length ls
    → (a : Lane) × OneLane t (lanes_on i t at) a
unfolding lanes_on
lane_there t at [] i f h = absurd (omega arith)
lane_there t at (a ∷ ls) zero f h = (a, f.0)
lane_there t at (a ∷ ls) (suc i) f h = lane_there t (next_lane t at) ls i f.1 (omega arith)

-- and it is that behind as many
lane-behind : (t : List ℕ) (at : ℕ) (before : List Lane) (a : Lane) (behind : List Lane)
    → LanesAt t at (before ++ (a ∷ behind)) → OneLane t (lanes_on (length before) t at) a
unfolding lanes_on
lane-behind t at [] a behind f = f.0
lane-behind t at (b ∷ before) a behind f = lane-behind t (next_lane t at) before a behind f.1

index_in : (t : List ℕ) (ls : List Lane) (i : ℕ) → text_read t ≡ lanes ls → i < length ls
    → lane_of t i ≡ Ok (Some (parts_at t (lanes_on i t (first_lane t))))
unfolding lane_of
index_in t ls i e h = ap (λ (r : Told). on_told r t i) e ∙ rw (lt-ltb i (length ls) h)

pub lane_none : (t : List ℕ) (ls : List Lane) (i : ℕ) → text_read t ≡ lanes ls → length ls ≤ i → lane_of t i ≡ Ok None
unfolding lane_of
lane_none t ls i e h = ap (λ (r : Told). on_told r t i) e ∙ rw (le-ltb i (length ls) h)

lane_unread : (t : List ℕ) (i n : ℕ) → text_read t ≡ bad n → lane_of t i ≡ Err (record { line = n })
unfolding lane_of
lane_unread t i n e = ap (λ (r : Told). on_told r t i) e

pub lane_is : (t : List ℕ) (before : List Lane) (a : Lane) (behind : List Lane)
    → text_read t ≡ lanes (before ++ (a ∷ behind)) → Parts t (length before) a
lane_is t before a behind e =
    let o = lane-behind t (first_lane t) before a behind (lanes_stand t (before ++ (a ∷ behind)) e) in
    parts_are o (length before)
    (index_in t (before ++ (a ∷ behind)) (length before) e (omega (arith, length-append before (a ∷ behind))))

-- ---- the code's ways

fair : (r : Told) (t : List ℕ) (i : ℕ) → permitted unreporting (said_picked (on_told r t i)) ≡ true
fair (lanes ls) t i = go (ltb i (length ls))
  where
    go : (b : Bool)
        → permitted unreporting (said_picked (Ok (cond b (Some (parts_at t (lanes_on i t (first_lane t)))) None))) ≡ true
    go true = refl
    go false = refl
fair (bad n) t i = refl

-- its number is one that is listed for it
pub told : (t : List ℕ) (i : ℕ) (r : Result (Option Places) BadLine) → r ≡ lane_of t i
    → (r ≡ lane_of t i) × (permitted unreporting (said_picked r) ≡ true)
unfolding lane_of
told t i r e =
    (e, ap (λ (x : Result (Option Places) BadLine). permitted unreporting (said_picked x)) e ∙ fair (text_read t) t i)

module _ (t : List ℕ) (i : ℕ) (c : Lanes) (e : Ok c ≡ checked_of (text_read t)) where
  -- what a check that told lanes has read
  abbrev Read : Type 0
  Read = (ls : List Lane) × (text_read t ≡ lanes ls) × (length ls ≡ c.lanes)

  read : Read
  read = go (text_read t) refl e
    where
      go : (r : Told) → text_read t ≡ r → Ok c ≡ checked_of r → Read
      go (lanes ls) p e = (ls, p, cc)
      go (bad k) p e = let z : ◌≡◌ {A = ℕ} 0 1 = cc in absurd (omega arith)

  pub pick_parts : i < c.lanes → (at : ℕ) → at ≡ lanes_on i t (first_lane t) → PartsIn t at
  pick_parts h at p =
      let r = read in
      let o = lane_there t (first_lane t) r.0 i (lanes_stand t r.0 r.1) (omega (arith, r.2)) in
      subst (PartsIn t) (sym p) (parts_in o.1)

  pub pick_found : i < c.lanes → (at : ℕ) → at ≡ lanes_on i t (first_lane t) → Ok (Some (parts_at t at)) ≡ lane_of t i
  pick_found h at p =
      let r = read in
      ap (λ (n : ℕ). Ok (Some (parts_at t n))) p ∙ sym (index_in t r.0 i r.1 (omega (arith, r.2)))

  pub pick_none : c.lanes ≤ i → Ok None ≡ lane_of t i
  pick_none h = let r = read in sym (lane_none t r.0 i r.1 (omega (arith, r.2)))

pub pick_unread : (t : List ℕ) (i : ℕ) (b : BadLine) → Err b ≡ checked_of (text_read t) → Err b ≡ lane_of t i
pick_unread t i b e = go (text_read t) refl e
  where
    go : (r : Told) → text_read t ≡ r → Err b ≡ checked_of r → Err b ≡ lane_of t i
    go (lanes ls) p e = let z : ◌≡◌ {A = ℕ} 0 1 = cc in absurd (omega arith)
    go (bad k) p e = let q : b ≡ record { line = k } = cc in ap Err q ∙ sym (lane_unread t i k p)

-- ---- the code's places

module _ (t : List ℕ) (at : ℕ) where
  pub line_two : (a b : ℕ) → a ≡ next_line t at → b ≡ next_line t a → b ≡ bytes_line t at
  line_two a b p q = q ∙ ap (next_line t) p

  pub bytes-room : PartsIn t at → bytes_line t at + 6 ≤ length t
  bytes-room f =
      omega (
        arith,
        f.bytes_fits,
        line-in t (bytes_line t at) (next-in t (next_line t at) (next-in t at f.within)),
      )

  pub bytes-ends : (b e : ℕ) → b ≡ bytes_line t at → e ≡ line_end t b → PartsIn t at → b + 6 ≤ e
  bytes-ends b e p q f =
      let r : e ≡ line_end t (bytes_line t at) = q ∙ ap (line_end t) p in omega (arith, f.bytes_fits)

  pub parts-found : (e b d : ℕ) → e ≡ line_end t at → b ≡ bytes_line t at → d ≡ line_end t b
      → places (at + 5) (e - (at + 5)) (b + 6) (d - (b + 6)) ≡ parts_at t at
  unfolding parts_at
  parts-found e b d p q r =
      let v = bytes_line t at in
      let x : e - (at + 5) ≡ line_length (drop at t) - 5 = omega arith in
      let s : d ≡ line_end t v = r ∙ ap (line_end t) q in
      let y : d - (b + 6) ≡ line_length (drop v t) - 6 = omega arith in
      λ i. places (at + 5) (x i) (q i + 6) (y i)
