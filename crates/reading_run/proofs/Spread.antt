-- Byte by byte, with those of a vint held until its last, bytes come to what the vint reader, asked again and again,
-- comes to. Assumes nothing.
use Prim.Native.Nat.{ℕ, zero, suc, ◌+◌, ◌-◌, ◌*◌, ◌≤◌, ◌<◌}
use mathlib.Core.Path.{◌≡◌, refl, sym, ap, ◌∙◌, subst}
use mathlib.Core.Bool.{Bool, true, false, cond, ◌&&◌}
use mathlib.Core.List.{List, [], ◌∷◌, ◌++◌, append_assoc, append-nil}
use native.Mathlib.Omega.{arith}
use lib.Dec.{ltb, eqb}
use lib.ListN.{length, length-append, drop}
use borrow.Author.Tests.{ltb-true, ltb-false, le-leb, lt-leb, ne_eqb}
use Rattle.limits.specs.Limits.{vint_limit}
use Rattle.std.specs.Prelude.{Some, None, Ok, Err}
use Rattle.limits.specs.declared.Refusal.TheVariants.{NoEnd}
use Rattle.vint.specs.Vint.{Unvint, Taken, ended, unended, grouped, take_vint, answer_of, read_vint}
use Rattle.reading_run.specs.Readings.{Split, split, in_front, on_vint, split_up, vints_of}
use Rattle.reading_run.proofs.Split.{drop-front, split_step, split_none, counted}

-- held bytes, none with the top bit
abbrev NoTop : List ℕ → Type 0
NoTop [] = Unit {0}
NoTop (b ∷ bs) = (b < 128) × NoTop bs

no_top_snoc : (h : List ℕ) (b : ℕ) → NoTop h → b < 128 → NoTop (h ++ (b ∷ []))
no_top_snoc [] b n l = (l, tt)
no_top_snoc (x ∷ h) b n l = (n.0, no_top_snoc h b n.1 l)

-- ---- what the reader takes of held bytes

take_low : (w b : ℕ) (bs : List ℕ) → b < 128 → take_vint (suc w) (b ∷ bs) ≡ grouped b (take_vint w bs)
unfolding take_vint
take_low w b bs h = rw (lt-leb 128 b h)

take_top : (w b : ℕ) (bs : List ℕ) → 128 ≤ b → take_vint (suc w) (b ∷ bs) ≡ ended (b - 128) 1
unfolding take_vint
take_top w b bs h = rw (le-leb 128 b h)

take-nil : (w : ℕ) → take_vint w [] ≡ unended
unfolding take_vint
take-nil zero = refl
take-nil (suc w) = refl

take_zero : (bs : List ℕ) → take_vint zero bs ≡ unended
unfolding take_vint
take_zero bs = refl

-- held bytes and one with the top bit: a sum, and that many bytes, whatever follows
abbrev sum_of : List ℕ → ℕ → ℕ
sum_of [] b = b - 128
sum_of (x ∷ h) b = x + 128 * sum_of h b

take_whole : (w : ℕ) (h : List ℕ) (b : ℕ) (rest : List ℕ) → NoTop h → length h < w → 128 ≤ b
    → take_vint w (h ++ (b ∷ rest)) ≡ ended (sum_of h b) (suc (length h))
take_whole zero h b rest n l t = absurd (omega arith)
take_whole (suc w) [] b rest n l t = take_top w b rest t
take_whole (suc w) (x ∷ h) b rest n l t =
    take_low w x (h ++ (b ∷ rest)) n.0 ∙ ap (grouped x) (take_whole w h b rest n.1 (omega arith) t)

-- without a top bit there is no end: among w of them whatever follows, and among fewer where nothing does
take-full : (w : ℕ) (h rest : List ℕ) → NoTop h → w ≤ length h → take_vint w (h ++ rest) ≡ unended
take-full zero h rest n l = take_zero (h ++ rest)
take-full (suc w) [] rest n l = absurd (omega arith)
take-full (suc w) (x ∷ h) rest n l =
    take_low w x (h ++ rest) n.0 ∙ ap (grouped x) (take-full w h rest n.1 (omega arith))

take-held : (w : ℕ) (h : List ℕ) → NoTop h → take_vint w h ≡ unended
take-held w [] n = take-nil w
take-held zero (b ∷ h) n = take_zero (b ∷ h)
take-held (suc w) (b ∷ h) n = take_low w b h n.0 ∙ ap (grouped b) (take-held w h n.1)

-- ---- byte by byte

abbrev pub on_whole : Unvint → Split → Split
on_whole (Ok r) rest = in_front r.number rest
on_whole (Err r) rest = split [] (Some r)

-- bytes behind held ones
unfoldable pub spread : List ℕ → List ℕ → Split
unfolding take_vint answer_of
spread h [] = split [] (cond (eqb (length h) 0) None (Some NoEnd))
spread h (b ∷ bs) =
    cond (ltb b 128 && ltb (length h + 1) vint_limit) (spread (h ++ (b ∷ [])) bs)
    (on_whole (read_vint (h ++ (b ∷ []))) (spread [] bs))

snoc_length : (h : List ℕ) (b : ℕ) → length (h ++ (b ∷ [])) ≡ suc (length h)
snoc_length h b = rw length-append (omega arith)

snoc_on : (h : List ℕ) (b : ℕ) (bs : List ℕ) → (h ++ (b ∷ [])) ++ bs ≡ h ++ (b ∷ bs)
snoc_on h b bs = append_assoc h (b ∷ []) bs

-- the reader goes on behind the bytes that it took
answer_step : (v : ℕ) (xs bs : List ℕ) (rest : List ℕ → Split) (r : Unvint) → answer_of (ended v (length xs)) ≡ r
    → on_vint r (xs ++ bs) rest ≡ on_whole r (rest bs)
answer_step v xs bs rest (Ok r) e =
    ap (λ (k : ℕ). in_front r.number (rest (drop k (xs ++ bs)))) (counted v (length xs) r.number r.taken e)
    ∙ ap (λ (l : List ℕ). in_front r.number (rest l)) (drop-front xs bs)
answer_step v xs bs rest (Err r) e = refl

-- a whole vint, or five bytes without an end, in front of bytes
module _ (f : ℕ) (h : List ℕ) (b : ℕ) (bs : List ℕ) (n : NoTop h) (l : length h < vint_limit) where
  abbrev xs : List ℕ
  xs = h ++ (b ∷ [])

  first : split_up (suc f) (h ++ (b ∷ bs)) ≡ on_vint (read_vint (h ++ (b ∷ bs))) (h ++ (b ∷ bs)) (λ rest. split_up f rest)
  first = split_step f (h ++ (b ∷ bs)) (rw length-append (omega arith))

  ends : 128 ≤ b → split_up (suc f) (h ++ (b ∷ bs)) ≡ on_whole (read_vint xs) (split_up f bs)
  ends t =
      let v = sum_of h b in
      let p : take_vint vint_limit (h ++ (b ∷ bs)) ≡ ended v (length xs) =
      take_whole vint_limit h b bs n l t ∙ ap (ended v) (sym (snoc_length h b)) in
      let q : take_vint vint_limit xs ≡ ended v (length xs) =
      take_whole vint_limit h b [] n l t ∙ ap (ended v) (sym (snoc_length h b)) in
      first
      ∙ ap (λ (u : Taken). on_vint (answer_of u) (h ++ (b ∷ bs)) (λ rest. split_up f rest)) p
      ∙ ap (λ (ys : List ℕ). on_vint (answer_of (ended v (length xs))) ys (λ rest. split_up f rest))
      (sym (snoc_on h b bs))
      ∙ answer_step v xs bs (λ rest. split_up f rest) (answer_of (ended v (length xs))) refl
      ∙ sym (ap (λ (u : Taken). on_whole (answer_of u) (split_up f bs)) q)

  overruns : b < 128 → vint_limit ≤ length h + 1 → split_up (suc f) (h ++ (b ∷ bs)) ≡ on_whole (read_vint xs) (split_up f bs)
  unfolding answer_of
  overruns t e =
      let p : take_vint vint_limit (h ++ (b ∷ bs)) ≡ unended =
      subst (λ (ys : List ℕ). take_vint vint_limit ys ≡ unended) (snoc_on h b bs)
      (take-full vint_limit xs bs (no_top_snoc h b n t) (omega (arith, snoc_length h b))) in
      let q : take_vint vint_limit xs ≡ unended = take-held vint_limit xs (no_top_snoc h b n t) in
      first
      ∙ ap (λ (u : Taken). on_vint (answer_of u) (h ++ (b ∷ bs)) (λ rest. split_up f rest)) p
      ∙ sym (ap (λ (u : Taken). on_whole (answer_of u) (split_up f bs)) q)

-- BYTE BY BYTE AS BY THE READER
spread_is : (f : ℕ) (h bs : List ℕ) → NoTop h → length h < vint_limit → length h + length bs ≤ f
    → spread h bs ≡ split_up f (h ++ bs)
unfolding spread answer_of
spread_is f [] [] n l k = sym (split_none f)
spread_is zero (x ∷ h) [] n l k = absurd (omega arith)
spread_is (suc f) (x ∷ h) [] n l k =
    ap (λ (t : Bool). split [] (cond t None (Some NoEnd))) (ne_eqb (suc (length h)) 0 (λ z. omega arith))
    ∙ sym (ap (split_up (suc f)) (append-nil (x ∷ h)) ∙ split_step f (x ∷ h) (omega arith)
    ∙ ap (λ (u : Taken). on_vint (answer_of u) (x ∷ h) (λ rest. split_up f rest)) (take-held vint_limit (x ∷ h) n))
spread_is zero h (b ∷ bs) n l k = absurd (omega arith)
spread_is (suc f) h (b ∷ bs) n l k =
    go (ltb b 128) refl (ltb (length h + 1) vint_limit) refl
    (λ t e. spread_is (suc f) (h ++ (b ∷ [])) bs (no_top_snoc h b n t) (omega (arith, snoc_length h b))
    (omega (arith, snoc_length h b)))
    (spread_is f [] bs tt (omega arith) (omega arith))
  where
    go : (c : Bool) → ltb b 128 ≡ c → (d : Bool) → ltb (length h + 1) vint_limit ≡ d
        → (b < 128 → length h + 1 < vint_limit
        → spread (h ++ (b ∷ [])) bs ≡ split_up (suc f) ((h ++ (b ∷ [])) ++ bs))
        → spread [] bs ≡ split_up f bs
        → cond (c && d) (spread (h ++ (b ∷ [])) bs) (on_whole (read_vint (h ++ (b ∷ []))) (spread [] bs))
        ≡ split_up (suc f) (h ++ (b ∷ bs))
    go true p true q on back =
        on (ltb-true b 128 p) (ltb-true (length h + 1) vint_limit q) ∙ ap (split_up (suc f)) (snoc_on h b bs)
    go true p false q on back =
        ap (on_whole (read_vint (h ++ (b ∷ [])))) back
        ∙ sym (overruns f h b bs n l (ltb-true b 128 p) (ltb-false (length h + 1) vint_limit q))
    go false p d q on back =
        ap (on_whole (read_vint (h ++ (b ∷ [])))) back ∙ sym (ends f h b bs n l (ltb-false b 128 p))

pub spread_vints : (bs : List ℕ) → spread [] bs ≡ vints_of bs
spread_vints bs = spread_is (length bs) [] bs tt (omega arith) (omega arith)
