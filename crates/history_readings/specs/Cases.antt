-- RULES AB11. A small history with readings worked out, so that the theorem is seen to speak of something: a store with
-- pages of 64 bytes, in which a lane has room for 24 bytes.
use Rattle.std.specs.Prelude.{◌≡◌, refl, List, [], ◌∷◌, ℤ, pos, negsuc}
use Rattle.vint.specs.Vint.{vint_bytes}
use Rattle.shared_arena_hashmap.specs.Buckets.{cleared}
use Rattle.store_append.specs.Append.{append_of}
use Rattle.history.specs.History.{looks_up}
use Rattle.history.specs.Cases.{lane_a, start}
use Rattle.history_readings.specs.Steps.{Step, reading, call, a_reading, accepted_for, readings_among}

abbrev pub lowest : ℤ
lowest = negsuc 2147483647

-- -1, which is one byte, then four readings of five bytes; a sixth that is refused (7), a lookup, and 0 behind the last
-- accepted one, again one byte
abbrev pub steps : List Step
steps =
    reading lane_a (pos 0) (negsuc 0)
    ∷ reading lane_a (negsuc 0) lowest
    ∷ reading lane_a lowest (pos 0)
    ∷ reading lane_a (pos 0) lowest
    ∷ reading lane_a lowest (pos 0)
    ∷ reading lane_a (pos 0) lowest
    ∷ call (looks_up lane_a)
    ∷ reading lane_a (pos 0) (pos 0)
    ∷ []

abbrev pub six : List ℤ
six = negsuc 0 ∷ lowest ∷ pos 0 ∷ lowest ∷ pos 0 ∷ pos 0 ∷ []

-- RULES AB11. What was accepted: the refused one doesn't count.
pub accepted_cases : (accepted_for lane_a steps start
    ≡ a_reading (pos 0) (negsuc 0)
    ∷ a_reading (negsuc 0) lowest
    ∷ a_reading lowest (pos 0)
    ∷ a_reading (pos 0) lowest
    ∷ a_reading lowest (pos 0)
    ∷ a_reading (pos 0) (pos 0)
    ∷ [])
    × (readings_among (accepted_for lane_a steps start) ≡ six)
unfolding accepted_for append_of cleared vint_bytes
accepted_cases = (refl, refl)
