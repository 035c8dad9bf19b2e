-- The code from the walk to the answers. Assumes nothing.
use Prim.Native.Nat.{ℕ, ◌≤◌, ◌<◌}
use mathlib.Core.Path.{◌≡◌, refl, sym, ap, ◌∙◌}
use mathlib.Core.Bool.{Bool, true, false, cond}
use mathlib.Core.Option.{Option, none, some}
use mathlib.Core.List.{List}
use native.Mathlib.Omega.{arith}
use lib.Dec.{eqb}
use lib.ListN.{length}
use borrow.Author.Tests.{lt-leb, le-leb}
use Rattle.std.specs.Prelude.{Some, None, Ok, Err}
use Rattle.std.specs.Option.{is_some}
use Rattle.limits.specs.Limits.{name_limit}
use Rattle.limits.specs.Refusals.{permitted, flat_looking_up, flat_measuring, flat_reading}
use Rattle.limits.specs.declared.Refusal.TheVariants.{Damage}
use Rattle.spans.specs.Span.{read_span, overwrite}
use Rattle.spans.proofs.Laws.{length_span}
use Rattle.entries.specs.Log.{Entry, joined_in}
use Rattle.entries.specs.Form.{entries_of}
use Rattle.flat_walk.specs.Walk.{Tally, tally_in, walked, place_in, output_in}
use Rattle.flat_walk.proofs.Joined.{plain, tally_by, tally-joined, place-joined, output_joined}
use Rattle.flat_store.specs.declared.NotRead.TheVariants.{TooShort, Refused}
use Rattle.flat_store.specs.Calls.{Held, stands, absent, refuses, held_by, held_of, length_by, lookup_by, Measured, Lookup}
use Rattle.flat_store.specs.Calls.{Answer, Read, reading, read_by, lookup_of, length_of, read_of}
use Rattle.flat_store.specs.Said.{said_lookup, said_length, said_read}
use Rattle.flat_store.proofs.Calls.{held-named, Stood, held_any, fair-lookup, fair-length, fair-read}

-- ---- length

module _ (buffer : List ℕ) (used : ℕ) (name : List ℕ) where
  pub length-walked : used ≤ length buffer → length name ≤ name_limit → 0 < length name
      → length_of buffer used name
      ≡ walked name (length (read_span 0 used buffer)) (entries_of (read_span 0 used buffer)) None
  unfolding length_of
  length-walked h k l =
      let run : List ℕ = read_span 0 used buffer in
      sym (ap (λ (n : ℕ). walked name n (entries_of run) None) (length_span 0 used buffer (omega arith))
      ∙ go (eqb (entries_of run).end used) (entries_of run).entries
      ∙ sym (ap length_by (held-named buffer used name h k l)))
    where
      by : (o : Option (List ℕ)) → ◌≡◌ {A = Measured} (Ok (tally_by o)) (length_by (held_by o))
      by none = refl
      by (some bs) = refl

      go : (b : Bool) (es : List Entry)
          → ◌≡◌ {A = Measured} (cond b (Ok (tally_in name es None)) (Err Damage))
          (length_by (cond b (held_by (joined_in name es none)) (refuses Damage)))
      go true es = ap (λ (t : Tally). Ok t) (tally-joined name es none) ∙ by (joined_in name es none)
      go false es = refl

  -- what is made of what is held is the length, and its number is one that is listed for it
  pub length_from_lem : (r : Measured) → r ≡ length_by (held_of buffer used name)
      → (r ≡ length_of buffer used name) × (permitted flat_measuring (said_length r) ≡ true)
  unfolding length_of
  length_from_lem r e =
      (e, ap (λ (x : Measured). permitted flat_measuring (said_length x)) e ∙ fair-length buffer used name)

  -- ---- lookup

  -- a lookup by the length
  abbrev pub on_length : Measured → Lookup
  on_length (Ok o) = Ok (is_some o)
  on_length (Err r) = Err r

  pub lookup_is : (m : Measured) → m ≡ length_of buffer used name → on_length m ≡ lookup_of buffer used name
  unfolding length_of lookup_of
  lookup_is m e = ap on_length e ∙ go (held_of buffer used name)
    where
      go : (h : Held) → on_length (length_by h) ≡ lookup_by h
      go (stands bs) = refl
      go absent = refl
      go (refuses r) = refl

  -- the same of a lookup
  pub lookup_from_lem : (m : Measured) → m ≡ length_by (held_of buffer used name) → (r : Lookup) → r ≡ on_length m
      → (r ≡ lookup_of buffer used name) × (permitted flat_looking_up (said_lookup r) ≡ true)
  unfolding length_of
  lookup_from_lem m e r q =
      let same : r ≡ lookup_of buffer used name = q ∙ lookup_is m e in
      (same, ap (λ (x : Lookup). permitted flat_looking_up (said_lookup x)) same ∙ fair-lookup buffer used name)

  -- ---- reading

  -- so many bytes are held
  pub record Sized (n : ℕ) : Type 0 where
    pub bytes : List ℕ
    pub size : length bytes ≡ n
    pub held : held_of buffer used name ≡ stands bytes
    pub stood : Stood buffer used name bytes

  pub sized : (n : ℕ) → Ok (Some n) ≡ length_of buffer used name → Sized n
  unfolding length_of
  sized n =
      held_any buffer used name
      (λ h. held_of buffer used name ≡ h → ◌≡◌ {A = Measured} (Ok (Some n)) (length_by h) → Sized n)
      (λ bs S e q. record { bytes = bs; size = sym cc; held = e; stood = S })
      (λ e q. cc)
      (λ e q. cc)
      (λ e q. cc)
      (λ e q. cc)
      refl

  module _ (output : List ℕ) where
    -- a reading by the length, where nothing is read
    abbrev pub unread : Measured → Answer
    unread (Ok o) = Ok o
    unread (Err r) = Err (Refused r)

    pub read_not : (m : Measured) → m ≡ length_of buffer used name → ((n : ℕ) → m ≡ Ok (Some n) → ⊥)
        → reading (unread m) output ≡ read_of buffer used name output
    unfolding length_of read_of read_by
    read_not m e f = go (held_of buffer used name) e
      where
        go : (h : Held) → m ≡ length_by h → reading (unread m) output ≡ read_by h output
        go (stands bs) q = absurd (f (length bs) q)
        go absent q = ap (λ (x : Measured). reading (unread x) output) q
        go (refuses r) q = ap (λ (x : Measured). reading (unread x) output) q

    -- the call's numbers are those that are listed for it
    pub read_fair : (r : Answer) (o : List ℕ) → reading r o ≡ read_of buffer used name output
        → permitted flat_reading (said_read r) ≡ true
    read_fair r o e =
        ap (λ (x : Read). permitted flat_reading (said_read x.answer)) e ∙ fair-read buffer used name output

    module _ (n : ℕ) (S : Sized n) where
      pub read_8 : length output < n → reading (Err (TooShort n)) output ≡ read_of buffer used name output
      unfolding read_of read_by
      read_8 h = rw (S.held, lt-leb (length S.bytes) (length output) (omega (arith, S.size)), S.size)

      pub read_fits : n ≤ length output
          → place_in name (entries_of (read_span 0 used buffer)).entries 0 ≤ length output
      read_fits h =
          let es : List Entry = (entries_of (read_span 0 used buffer)).entries in
          omega (
            arith,
            place-joined name es,
            ap (λ (o : Option (List ℕ)). length (plain o)) S.stood.joined,
            S.size,
          )

      pub read_done : n ≤ length output → (output' : List ℕ)
          → output' ≡ output_in name (entries_of (read_span 0 used buffer)).entries 0 output
          → reading (Ok (Some n)) output' ≡ read_of buffer used name output
      unfolding read_of read_by
      read_done h output' q =
          let es : List Entry = (entries_of (read_span 0 used buffer)).entries in
          let o : output' ≡ overwrite 0 S.bytes output =
          q ∙ output_joined name es output
          ∙ ap (λ (x : Option (List ℕ)). overwrite 0 (plain x) output) S.stood.joined in
          ap (reading (Ok (Some n))) o
          ∙ rw (S.held, le-leb (length S.bytes) (length output) (omega (arith, S.size)), S.size)
