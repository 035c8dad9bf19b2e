-- Some lanes' bytes worked out.
use Rattle.std.specs.Prelude.{◌≡◌, refl, [], ◌∷◌, pos, negsuc, Some, None}
use Rattle.limits.specs.declared.Refusal.TheVariants.{NoEnd, AnotherForm}
use Rattle.vint.specs.Vint.{vint_bytes, take_vint, answer_of}
use Rattle.reading_run.specs.Readings.{readings_bytes, split, split_up, vints_of, readings_in}

-- RULES AB11. -1, -1, 63: the differences -1, 0 and 64 are stored as 1, 0 and 128. The lowest reading behind 0 is
-- stored as 4,294,967,295, and so is 0 behind it.
pub written_cases : (readings_bytes (pos 0) (negsuc 0 ∷ negsuc 0 ∷ pos 63 ∷ []) ≡ 0x81 ∷ 0x80 ∷ 0x00 ∷ 0x81 ∷ [])
    × (readings_bytes (pos 0) (negsuc 2147483647 ∷ pos 0 ∷ [])
    ≡ 0x7F ∷ 0x7F ∷ 0x7F ∷ 0x7F ∷ 0x8F ∷ 0x7F ∷ 0x7F ∷ 0x7F ∷ 0x7F ∷ 0x8F ∷ [])
unfolding vint_bytes
written_cases = (refl, refl)

-- RULES AB11. And read: whole; cut in the third vint; five bytes without an end behind the first; an empty last group
-- behind the first; no byte at all.
pub read_cases : (vints_of (0x81 ∷ 0x80 ∷ 0x00 ∷ 0x81 ∷ []) ≡ split (1 ∷ 0 ∷ 128 ∷ []) None)
    × (readings_in (vints_of (0x81 ∷ 0x80 ∷ 0x00 ∷ 0x81 ∷ [])) ≡ negsuc 0 ∷ negsuc 0 ∷ pos 63 ∷ [])
    × (vints_of (0x81 ∷ 0x80 ∷ 0x00 ∷ []) ≡ split (1 ∷ 0 ∷ []) (Some NoEnd))
    × (vints_of (0x81 ∷ 1 ∷ 1 ∷ 1 ∷ 1 ∷ 1 ∷ 0x81 ∷ []) ≡ split (1 ∷ []) (Some NoEnd))
    × (vints_of (0x81 ∷ 1 ∷ 0x80 ∷ 0x81 ∷ []) ≡ split (1 ∷ []) (Some AnotherForm))
    × (vints_of [] ≡ split [] None)
unfolding split_up take_vint answer_of
read_cases = (refl, refl, refl, refl, refl, refl)
