-- Document 02's own numbers, and the ends of the range.
use Rattle.std.specs.Prelude.{◌≡◌, refl, pos, negsuc}
use Rattle.signed.specs.Signed.{difference, following, stored, unstored}

-- RULES AB3. "Difference -1 is stored as 1, and -2,147,483,648 as 4,294,967,295"; 0 as 0, the highest as the even one
-- before that.
pub stored_cases : (stored (pos 0) ≡ 0)
    × (stored (negsuc 0) ≡ 1)
    × (stored (pos 1) ≡ 2)
    × (stored (pos 2147483647) ≡ 4294967294)
    × (stored (negsuc 2147483647) ≡ 4294967295)
stored_cases = (refl, refl, refl, refl, refl)

-- RULES AB3. And back.
pub unstored_cases : (unstored 0 ≡ pos 0)
    × (unstored 1 ≡ negsuc 0)
    × (unstored 2 ≡ pos 1)
    × (unstored 4294967294 ≡ pos 2147483647)
    × (unstored 4294967295 ≡ negsuc 2147483647)
unstored_cases = (refl, refl, refl, refl, refl)

-- RULES AB2. From the lowest reading to the highest the difference is -1, and back 1; between 0 and the lowest it is
-- the lowest, both ways.
pub difference_cases : (difference (negsuc 2147483647) (pos 2147483647) ≡ negsuc 0)
    × (difference (pos 2147483647) (negsuc 2147483647) ≡ pos 1)
    × (difference (pos 0) (negsuc 2147483647) ≡ negsuc 2147483647)
    × (difference (negsuc 2147483647) (pos 0) ≡ negsuc 2147483647)
    × (following (negsuc 2147483647) (negsuc 0) ≡ pos 2147483647)
    × (following (negsuc 2147483647) (negsuc 2147483647) ≡ pos 0)
difference_cases = (refl, refl, refl, refl, refl, refl)
