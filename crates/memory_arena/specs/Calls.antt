-- RULES G. The calls on a bare arena: what each answers and leaves, for any state and any lent length. Refusals by
-- document 01's numbers: 9 an allocation of 0 or over a page's bytes; 10 a span that isn't good, a lent length that
-- creation refuses, or a state whose page or used count exceeds it. The lowest comes first, but for one: "a senseless
-- size in a bare arena state is 10, whatever is asked" (document 02, Nine).
use Rattle.std.specs.Prelude.{ℕ, ◌≡◌, refl, Bool, cond, ◌&&◌, ◌||◌, List, [], ◌∷◌, ltb, eqb, length, replicate, ⊤}
use Rattle.std.specs.Prelude.{Some, None, Result, Ok, Err}
use Rattle.limits.specs.Limits.{page_taken, arena_limit_for}
use Rattle.limits.specs.Refusals.{Said, answered, refused, done, an_address, no_room, one-outcome, number_of}
use Rattle.limits.specs.declared.Refusal.{Refusal}
use Rattle.limits.specs.declared.Refusal.TheVariants.{WrongLength, OutOfArena}
use Rattle.spans.specs.Span.{read_span, overwrite}
use Rattle.memory_arena.specs.declared.Arena.{Arena}
use Rattle.memory_arena.specs.Pages.{lendable, standing, good_span, MaybeRoom, room_for}

-- RULES G1, B4, B6. A page's bytes and the lent length are such as creation takes, and the state is one of an arena of
-- that length.
unfoldable pub sensible : Arena → ℕ → Bool
unfolding standing
sensible a len = page_taken a.size && (lendable (arena_limit_for a.size) len && standing a len)

-- ---- this paper's number and values of each answer

-- RULES X7.
abbrev pub said_allocated : Result MaybeRoom Refusal → Said
said_allocated (Ok (Some r)) = answered an_address (r.at ∷ r.after.page ∷ r.after.used ∷ r.after.size ∷ [])
said_allocated (Ok None) = answered no_room []
said_allocated (Err e) = refused (number_of e) []

-- RULES X7.
abbrev pub said_touched : Result ⊤ Refusal → Said
said_touched (Ok u) = answered done []
said_touched (Err e) = refused (number_of e) []

-- ---- the calls

-- RULES G2. An address and the state after it, no room, 9 or 10; a size that isn't taken is 10 before all else.
unfoldable pub allocate_of : Arena → ℕ → ℕ → Result MaybeRoom Refusal
unfolding sensible room_for
allocate_of a len n =
    cond (page_taken a.size)
    (cond (eqb n 0 || ltb a.size n) (Err WrongLength)
    (cond (sensible a len) (Ok (room_for a len n)) (Err OutOfArena)))
    (Err OutOfArena)

-- RULES G3. The span may be touched.
unfoldable pub reachable : Arena → ℕ → ℕ → ℕ → Bool
unfolding sensible good_span
reachable a len at n = sensible a len && good_span a at n

-- RULES G4, G5. The answer, and the lent memory that the call may write, as it leaves it.
pub record Out : Type 0 where
  pub answer : Result ⊤ Refusal
  pub memory : List ℕ

-- RULES G4, G5. Both put together.
abbrev pub out : Result ⊤ Refusal → List ℕ → Out
out r m = record { answer = r; memory = m }

-- RULES G4. A read of as many bytes as the output has.
unfoldable pub read_of : Arena → List ℕ → ℕ → List ℕ → Out
unfolding reachable read_span
read_of a pages at output =
    cond (reachable a (length pages) at (length output)) (out (Ok tt) (read_span at (length output) pages))
    (out (Err OutOfArena) output)

-- RULES G5. A write.
unfoldable pub write_of : Arena → List ℕ → ℕ → List ℕ → Out
unfolding reachable overwrite
write_of a pages at bytes =
    cond (reachable a (length pages) at (length bytes)) (out (Ok tt) (overwrite at bytes pages)) (out (Err OutOfArena) pages)

-- RULES G6. A good span shown as a part of the lent pages; the empty part otherwise.
unfoldable pub slice_of : Arena → List ℕ → ℕ → ℕ → List ℕ
unfolding reachable read_span
slice_of a pages at n = cond (reachable a (length pages) at n) (read_span at n pages) []

-- ---- a row a case: what each call says then, of an arena of 100 bytes with so many used, its pages of so many bytes

abbrev used : ℕ → ℕ → Arena
used n s = record { page = 0; used = n; size = s }

abbrev hundred : List ℕ
hundred = replicate 100 7

-- RULES X7.
pub said_cases : (said_allocated (allocate_of (used 88 65536) 100 12) ≡ answered an_address (88 ∷ 0 ∷ 100 ∷ 65536 ∷ []))
    × (said_allocated (allocate_of (used 89 65536) 100 12) ≡ answered no_room [])
    × (said_allocated (allocate_of (used 101 65536) 100 0) ≡ refused 9 [])
    × (said_allocated (allocate_of (used 101 65536) 100 12) ≡ refused 10 [])
    × (said_allocated (allocate_of (used 88 65536) 100 65537) ≡ refused 9 [])
    × (said_allocated (allocate_of (used 88 131072) 100 65537) ≡ answered no_room [])
    × (said_allocated (allocate_of (used 88 65537) 100 0) ≡ refused 10 [])
    × (said_touched (read_of (used 88 65536) hundred 86 (0 ∷ 0 ∷ [])).answer ≡ answered done [])
    × (said_touched (read_of (used 88 65536) hundred 87 (0 ∷ 0 ∷ [])).answer ≡ refused 10 [])
    × (said_touched (read_of (used 88 65537) hundred 86 (0 ∷ 0 ∷ [])).answer ≡ refused 10 [])
    × (said_touched (write_of (used 88 65536) hundred 86 (0 ∷ 0 ∷ [])).answer ≡ answered done [])
    × (said_touched (write_of (used 88 65536) hundred 87 (0 ∷ 0 ∷ [])).answer ≡ refused 10 [])
unfolding allocate_of read_of write_of
said_cases = (refl, refl, refl, refl, refl, refl, refl, refl, refl, refl, refl, refl)

-- ---- the promises permit one outcome each

-- RULES X8.
pub allocate_settled : (a : Arena) (len n : ℕ) {x y : Result MaybeRoom Refusal}
    → x ≡ allocate_of a len n → y ≡ allocate_of a len n → x ≡ y
allocate_settled a len n p q = one-outcome p q

-- RULES X8.
pub read-settled : (a : Arena) (pages : List ℕ) (at : ℕ) (output : List ℕ) {x y : Out}
    → x ≡ read_of a pages at output → y ≡ read_of a pages at output → x ≡ y
read-settled a pages at output p q = one-outcome p q

-- RULES X8.
pub write_settled : (a : Arena) (pages : List ℕ) (at : ℕ) (bytes : List ℕ) {x y : Out}
    → x ≡ write_of a pages at bytes → y ≡ write_of a pages at bytes → x ≡ y
write_settled a pages at bytes p q = one-outcome p q

-- RULES X8.
pub slice_settled : (a : Arena) (pages : List ℕ) (at n : ℕ) {x y : List ℕ}
    → x ≡ slice_of a pages at n → y ≡ slice_of a pages at n → x ≡ y
slice_settled a pages at n p q = one-outcome p q
