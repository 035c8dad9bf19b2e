-- RULES AJ9. A row a case: what to lend, worked out. A peanut plant's shift, 192 lanes of 100,000 bytes; a pea sorter's
-- with small pages; the smallest that is something, in which one byte takes one block of 12; nothing at all; the most
-- lanes that a table holds, and one more; names whose records fill a page each, and one that no page holds; a size
-- that no page has.
use Rattle.std.specs.Prelude.{◌≡◌, refl}
use Rattle.lending.specs.declared.Lend.TheVariants.{Areas, TooMuch, NoSuchPage}
use Rattle.lending.specs.Lending.{lend_for}

-- RULES AJ9.
pub lend_cases : (lend_for 1048576 192 19200000 40 ≡ Areas 512 1024 11136 26355061)
    × (lend_for 65536 24 60000 20 ≡ Areas 64 128 912 314095)
    × (lend_for 1048576 1 1 1 ≡ Areas 1 2 19 12)
    × (lend_for 1048576 0 0 0 ≡ Areas 1 2 18 1)
    × (lend_for 1048576 2097152 0 1 ≡ Areas 4194304 8388608 39846040 21659711)
    × (lend_for 1048576 2097153 0 1 ≡ TooMuch)
    × (lend_for 65536 10 10 65518 ≡ Areas 32 64 655360 125)
    × (lend_for 65536 10 10 65519 ≡ TooMuch)
    × (lend_for 1000000 10 10 10 ≡ NoSuchPage)
unfolding lend_for
lend_cases = (refl, refl, refl, refl, refl, refl, refl, refl, refl)
