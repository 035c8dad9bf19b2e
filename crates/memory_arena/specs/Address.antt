-- RULES F1, F2. Document 01, "Pages and addresses": address = page number × page size + place on the page. For pages
-- of s bytes, whatever s is (document 02, Nine).
use Rattle.std.specs.Prelude.{ℕ, ◌+◌, ◌*◌, ◌/◌, ◌%◌}

-- RULES F1, F3. The address of a place on a page.
abbrev pub address_of : ℕ → ℕ → ℕ → ℕ
address_of s page place = page * s + place

-- RULES F2. An address's page.
abbrev pub page_of : ℕ → ℕ → ℕ
page_of s at = at / s

-- RULES F2. And its place there.
abbrev pub place_of : ℕ → ℕ → ℕ
place_of s at = at % s
