-- The calls, case by case. Assumes nothing.
use Prim.Native.Nat.{ℕ, ◌+◌, ◌≤◌, ◌<◌}
use mathlib.Core.Path.{◌≡◌, refl}
use mathlib.Core.Bool.{Bool, true, false, cond}
use mathlib.Core.Option.{Option, none, some}
use mathlib.Core.List.{List}
use native.Mathlib.Omega.{arith}
use lib.Dec.{leb, ltb, eqb}
use lib.ListN.{length}
use borrow.Author.Tests.{lt-ltb, le-ltb, lt-leb, le-leb, leb-true, ltb-true}
use Rattle.limits.specs.Limits.{name_limit}
use Rattle.limits.specs.Refusals.{permitted, flat_looking_up, flat_measuring, flat_reading}
use Rattle.numbers.proofs.Tests.{both}
use Rattle.spans.specs.Span.{read_span, overwrite}
use Rattle.entries.specs.Log.{entry, joined_in}
use Rattle.entries.specs.Form.{byte_limit, encoded, entry_size, Met, entries_of}
use Rattle.std.specs.Prelude.{Some, Ok, Err}
use Rattle.limits.specs.declared.Refusal.TheVariants.{NotWhole, NameTooLong, Damage, NoName, BufferFull}
use Rattle.flat_store.specs.declared.NotRead.TheVariants.{TooShort}
use Rattle.flat_store.specs.Calls.{Out, out, has_room, append_of, Held, stands, absent, refuses, held_by, held_in}
use Rattle.flat_store.specs.Calls.{held_of, lookup_by, length_by, reading, read_by, lookup_of, length_of, read_of}
use Rattle.flat_store.specs.Said.{said_lookup, said_length, said_read}

-- ---- room

module _ (len used n m : ℕ) where
  -- by its two tests
  pub room-bytes : byte_limit < m → false ≡ has_room len used n m
  room-bytes h = rw (lt-leb m byte_limit h)

  pub room_none : m ≤ byte_limit → len < used + (n + m + 6) → false ≡ has_room len used n m
  room_none h k = rw (le-leb m byte_limit h, lt-leb (used + (n + m + 6)) len k)

  pub room_some : m ≤ byte_limit → used + (n + m + 6) ≤ len → true ≡ has_room len used n m
  room_some h k = rw (le-leb m byte_limit h, le-leb (used + (n + m + 6)) len k)

  -- and the other way round
  pub room_facts : has_room len used n m ≡ true → (m ≤ byte_limit) × (used + (n + m + 6) ≤ len)
  room_facts e =
      let p = both (leb m byte_limit) (leb (used + (n + m + 6)) len) e in (leb-true _ _ p.0, leb-true _ _ p.1)

-- ---- an append

module _ (buffer : List ℕ) (used : ℕ) (name bytes : List ℕ) where
  -- by its tests, one after the other
  pub append_2 : length buffer < used → append_of buffer used name bytes ≡ out (Err NotWhole) buffer
  unfolding append_of
  append_2 h = rw (lt-leb used (length buffer) h)

  pub append_3 : used ≤ length buffer → name_limit < length name
      → append_of buffer used name bytes ≡ out (Err NameTooLong) buffer
  unfolding append_of
  append_3 h k = rw (le-leb used (length buffer) h, lt-leb (length name) name_limit k)

  pub append_13 : used ≤ length buffer → length name ≤ 0 → append_of buffer used name bytes ≡ out (Err NoName) buffer
  unfolding append_of
  append_13 h k =
      rw (le-leb used (length buffer) h, le-leb (length name) name_limit (omega arith), le-ltb 0 (length name) k)

  pub append_14 : used ≤ length buffer → length name ≤ name_limit → 0 < length name
      → has_room (length buffer) used (length name) (length bytes) ≡ false
      → append_of buffer used name bytes ≡ out (Err BufferFull) buffer
  unfolding append_of
  append_14 h k l r =
      rw (le-leb used (length buffer) h, le-leb (length name) name_limit k, lt-ltb 0 (length name) l, r)

  -- where all tests hold
  pub record Taken : Type 0 where
    pub inside : used ≤ length buffer
    pub short : length name ≤ name_limit
    pub named : 0 < length name
    pub room : has_room (length buffer) used (length name) (length bytes) ≡ true

  pub append-taken : Taken → append_of buffer used name bytes
      ≡ out (Ok (used + entry_size name bytes)) (overwrite used (encoded (entry name bytes)) buffer)
  unfolding append_of
  append-taken T =
      rw (
        le-leb used (length buffer) T.inside,
        le-leb (length name) name_limit T.short,
        lt-ltb 0 (length name) T.named,
        T.room,
      )

  -- what holds of each outcome holds of the append
  pub append_any : (P : Out → Type 0) → P (out (Err NotWhole) buffer) → P (out (Err NameTooLong) buffer)
      → P (out (Err NoName) buffer) → P (out (Err BufferFull) buffer)
      → (Taken → P (out (Ok (used + entry_size name bytes)) (overwrite used (encoded (entry name bytes)) buffer)))
      → P (append_of buffer used name bytes)
  unfolding append_of
  append_any P p2 p3 p13 p14 p =
      go (leb used (length buffer)) (leb (length name) name_limit) (ltb 0 (length name))
      (has_room (length buffer) used (length name) (length bytes)) refl refl refl refl
    where
      go : (a b c d : Bool) → leb used (length buffer) ≡ a → leb (length name) name_limit ≡ b → ltb 0 (length name) ≡ c
          → has_room (length buffer) used (length name) (length bytes) ≡ d
          → P (cond a (cond b (cond c (cond d
          (out (Ok (used + entry_size name bytes)) (overwrite used (encoded (entry name bytes)) buffer))
          (out (Err BufferFull) buffer)) (out (Err NoName) buffer)) (out (Err NameTooLong) buffer)) (out (Err NotWhole) buffer))
      go true true true true x y z r =
          p (record { inside = leb-true _ _ x; short = leb-true _ _ y; named = ltb-true _ _ z; room = r })
      go true true true false x y z r = p14
      go true true false d x y z r = p13
      go true false c d x y z r = p3
      go false b c d x y z r = p2

-- ---- what is held

module _ (buffer : List ℕ) (used : ℕ) (name : List ℕ) where
  -- by its tests
  pub held_2 : length buffer < used → held_of buffer used name ≡ refuses NotWhole
  unfolding held_of
  held_2 h = rw (lt-leb used (length buffer) h)

  pub held_3 : used ≤ length buffer → name_limit < length name → held_of buffer used name ≡ refuses NameTooLong
  unfolding held_of
  held_3 h k = rw (le-leb used (length buffer) h, lt-leb (length name) name_limit k)

  pub held-nameless : used ≤ length buffer → length name ≤ 0 → held_of buffer used name ≡ absent
  unfolding held_of
  held-nameless h k =
      rw (le-leb used (length buffer) h, le-leb (length name) name_limit (omega arith), le-ltb 0 (length name) k)

  pub held-named : used ≤ length buffer → length name ≤ name_limit → 0 < length name
      → held_of buffer used name ≡ held_in name used (entries_of (read_span 0 used buffer))
  unfolding held_of
  held-named h k l = rw (le-leb used (length buffer) h, le-leb (length name) name_limit k, lt-ltb 0 (length name) l)

  -- what stands is what the entries come to
  pub record Stood (bs : List ℕ) : Type 0 where
    pub inside : used ≤ length buffer
    pub joined : joined_in name (entries_of (read_span 0 used buffer)).entries none ≡ some bs

  -- what holds of each outcome holds of what is held
  pub held_any : (P : Held → Type 0) → ((bs : List ℕ) → Stood bs → P (stands bs)) → P absent → P (refuses NotWhole)
      → P (refuses NameTooLong) → P (refuses Damage) → P (held_of buffer used name)
  unfolding held_of
  held_any P ps pa p2 p3 p4 =
      go (leb used (length buffer)) (leb (length name) name_limit) (ltb 0 (length name)) refl
    where
      met : Met
      met = entries_of (read_span 0 used buffer)

      come : (o : Option (List ℕ)) → joined_in name met.entries none ≡ o → used ≤ length buffer → P (held_by o)
      come none e h = pa
      come (some bs) e h = ps bs (record { inside = h; joined = e })

      ended : (b : Bool) → used ≤ length buffer → P (cond b (held_by (joined_in name met.entries none)) (refuses Damage))
      ended true h = come (joined_in name met.entries none) refl h
      ended false h = p4

      go : (a b c : Bool) → leb used (length buffer) ≡ a
          → P (cond a (cond b (cond c (held_in name used met) absent) (refuses NameTooLong)) (refuses NotWhole))
      go true true true x = ended (eqb met.end used) (leb-true _ _ x)
      go true true false x = pa
      go true false c x = p3
      go false b c x = p2

  -- ---- so each call's numbers are those that are listed for it

  pub fair-lookup : permitted flat_looking_up (said_lookup (lookup_of buffer used name)) ≡ true
  unfolding lookup_of
  fair-lookup =
      held_any (λ h. permitted flat_looking_up (said_lookup (lookup_by h)) ≡ true) (λ bs S. refl) refl refl refl refl

  pub fair-length : permitted flat_measuring (said_length (length_of buffer used name)) ≡ true
  unfolding length_of
  fair-length =
      held_any (λ h. permitted flat_measuring (said_length (length_by h)) ≡ true) (λ bs S. refl) refl refl refl refl

  pub fair-read : (output : List ℕ) → permitted flat_reading (said_read (read_of buffer used name output).answer) ≡ true
  unfolding read_of read_by
  fair-read output =
      held_any (λ h. permitted flat_reading (said_read (read_by h output).answer) ≡ true)
      (λ bs S. go bs (leb (length bs) (length output))) refl refl refl refl
    where
      go : (bs : List ℕ) (b : Bool)
          → permitted flat_reading (said_read (cond b (reading (Ok (Some (length bs))) (overwrite 0 bs output))
          (reading (Err (TooShort (length bs))) output)).answer) ≡ true
      go bs true = refl
      go bs false = refl
