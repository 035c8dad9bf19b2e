-- RULES M4, M5, V3. Document 01, "Buckets": "A record is the key length as 2 little-endian bytes, the key, a 16-byte
-- value". The key is a lane's name, the value the header of its list.
use Rattle.std.specs.Prelude.{ℕ, ◌+◌, Bool, cond, ◌&&◌, List, ◌++◌, length, Option, Some, None}
use Rattle.limits.specs.Limits.{record_extra}
use Rattle.numbers.specs.LittleEndian.{le_number, le_bytes}
use Rattle.spans.specs.Span.{read_span}
use Rattle.memory_arena.specs.declared.Arena.{Arena}
use Rattle.memory_arena.specs.Pages.{good_span}
use Rattle.expull_header.specs.declared.Header.{Header}
use Rattle.expull_header.specs.Header.{header_at, end_bytes_at, sound_header, header_bytes}

-- RULES M4. The key length.
unfoldable pub key_length : List ℕ → ℕ → ℕ
unfolding le_number read_span
key_length keys at = le_number (read_span at 2 keys)

-- RULES M5, W1. Its length bytes and then all of it are good spans.
unfoldable pub good_record : Arena → List ℕ → ℕ → Bool
unfolding key_length good_span
good_record a keys at = good_span a at 2 && good_span a at (key_length keys at + record_extra)

-- RULES M4. The key bytes start at the third byte of the record.
unfoldable pub key_at : List ℕ → ℕ → List ℕ
unfolding key_length read_span
key_at keys at = read_span (at + 2) (key_length keys at) keys

-- RULES M4. The value starts behind the key.
unfoldable pub value_place : List ℕ → ℕ → ℕ
unfolding key_length
value_place keys at = at + 2 + key_length keys at

-- RULES V3. The header of the record at a place.
abbrev pub header_of : List ℕ → ℕ → Header
header_of keys at = header_at (value_place keys at) keys

-- RULES V3, W3. And whether it is no damage.
unfoldable pub header_sound : List ℕ → ℕ → Bool
unfolding value_place header_at end_bytes_at sound_header
header_sound keys at = sound_header (header_of keys at) (end_bytes_at (value_place keys at) keys)

-- RULES V3. The header; none where it is damage.
unfoldable pub head_of : List ℕ → ℕ → Option Header
unfolding header_sound
head_of keys at = cond (header_sound keys at) (Some (header_of keys at)) None

-- RULES M4, V13. "A record is the key length as 2 little-endian bytes, the key, a 16-byte value".
unfoldable pub record_bytes : List ℕ → Header → List ℕ
unfolding le_bytes header_bytes
record_bytes name h = le_bytes 2 (length name) ++ (name ++ header_bytes h)
