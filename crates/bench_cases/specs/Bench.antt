-- Document 01, "Bench cases": P1 to P12, by one table and one statement. Each row has the values that the definitions
-- give, and those of the paper.
use Rattle.std.specs.Prelude.{ℕ, ◌≡◌, refl, List, [], ◌∷◌, ◌++◌, replicate}
use Rattle.std.proofs.Math.Option.{Option, none, some}
use Rattle.limits.specs.Limits.{page_size}
use Rattle.numbers.specs.LittleEndian.{le_number}
use Rattle.spans.specs.Span.{read_span}
use Rattle.murmurhash2.specs.Murmur.{murmur_hash2}
use Rattle.vint.specs.Vint.{write_vint, vint_bytes}
use Rattle.memory_arena.specs.Address.{address_of}
use Rattle.shared_arena_hashmap.specs.Power.{rounded_down, grown_length}
use Rattle.shared_arena_hashmap.specs.Probe.{start_of}
use Rattle.expull_header.specs.Header.{fresh, header_bytes}
use Rattle.expull_append.specs.Append.{Writing, writing, appended}
use Rattle.store_create.specs.Create.{Created}
use Rattle.store_append.specs.declared.Appended.{Appended}
use Rattle.store_append.specs.declared.Appended.TheVariants.{Accepted, Declined}
use Rattle.store_create.specs.Create.{create_of}
use Rattle.store_look.specs.Look.{lent}
use Rattle.store_append.specs.Append.{append_of}
use Rattle.std.specs.Prelude.{Ok, Err}

-- nine bytes to a fresh list in an empty arena of 64 bytes: used, bytes 8 to 11, block number, head, tail, remaining
abbrev pub ninth : Option Writing → List ℕ
ninth none = []
ninth (some w) =
    w.arena.used ∷ (read_span 8 4
    w.memory ++ (w.header.number ∷ w.header.head ∷ w.header.tail ∷ w.header.remaining ∷ []))

abbrev pub nine : List ℕ
nine =
    ninth
    (appended (1 ∷ 2 ∷ 3 ∷ 4 ∷ 5 ∷ 6 ∷ 7 ∷ 8 ∷ 9 ∷ [])
    (writing (replicate 64 0) (record { page = 0; used = 0; size = page_size }) fresh))

-- key "A", empty append, to a store of capacity 1 that was just created: the key bytes used
abbrev pub used_by : Appended → List ℕ
used_by (Accepted st) = st.key_arena.used ∷ []
used_by (Declined st n) = []

abbrev pub after_a : Created → List ℕ → List ℕ
after_a (Ok st) t = used_by (append_of st (lent t (replicate 32 0) (replicate 16 0)) (65 ∷ []) []).answer
after_a (Err e) t = []

abbrev pub record_of_a : List ℕ
record_of_a = after_a (create_of 1 0 page_size (0 ∷ 0 ∷ []) 32 16).answer (create_of 1 0 page_size (0 ∷ 0 ∷ []) 32 16).table

-- the table: what the definitions give
unfoldable pub found : List (List ℕ)
unfolding murmur_hash2 le_number rounded_down vint_bytes appended header_bytes read_span create_of append_of
found =
    (murmur_hash2 0 [] ∷ [])
    ∷ (murmur_hash2 1 [] ∷ [])
    ∷ (murmur_hash2 1 (0 ∷ []) ∷ [])
    ∷ (address_of page_size 3 5 ∷ [])
    ∷ (rounded_down 7 ∷ [])
    ∷ (grown_length 1 ∷ grown_length 4 ∷ grown_length 8 ∷ [])
    ∷ (start_of 4 0 ∷ start_of 4 0xFFFFFFFF ∷ [])
    ∷ write_vint 300
    ∷ write_vint 4294967295
    ∷ nine
    ∷ header_bytes fresh
    ∷ record_of_a
    ∷ []

-- and what the paper says
abbrev pub wanted : List (List ℕ)
wanted =
    (0 ∷ [])
    ∷ (0x5BD15E36 ∷ [])
    ∷ (0 ∷ [])
    ∷ (3145733 ∷ [])
    ∷ (4 ∷ [])
    ∷ (8 ∷ 8 ∷ 16 ∷ [])
    ∷ (1 ∷ 0 ∷ [])
    ∷ (0x2C ∷ 0x82 ∷ [])
    ∷ (0x7F ∷ 0x7F ∷ 0x7F ∷ 0x7F ∷ 0x8F ∷ [])
    ∷ (32 ∷ 0x0C ∷ 0 ∷ 0 ∷ 0 ∷ 4 ∷ 0 ∷ 13 ∷ 15 ∷ [])
    ∷ (2 ∷ 0 ∷ 0 ∷ 0 ∷ 0xFF ∷ 0xFF ∷ 0xFF ∷ 0xFF ∷ 0xFF ∷ 0xFF ∷ 0xFF ∷ 0xFF ∷ 0 ∷ 0 ∷ 0 ∷ 0 ∷ [])
    ∷ (19 ∷ [])
    ∷ []

-- P1 to P12
pub cases : found ≡ wanted
unfolding found
cases = refl
