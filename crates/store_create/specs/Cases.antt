-- A row a case: what creation says in document 01's terms, over 18 words and twice 64 bytes. Each row is worked out
-- from the definition that the contract cites.
use Rattle.std.specs.Prelude.{◌≡◌, refl, [], replicate}
use Rattle.limits.specs.Refusals.{answered, refused, created}
use Rattle.store_create.specs.Said.{said_created}
use Rattle.store_create.specs.Create.{create_of}

-- RULES X7.
pub said-created : (said_created (create_of 1 0 65536 (replicate 18 7) 64 64).answer ≡ answered created [])
    × (said_created (create_of 0 0 65536 (replicate 18 7) 64 64).answer ≡ refused 1 [])
    × (said_created (create_of 1 0 65537 (replicate 18 7) 64 64).answer ≡ refused 1 [])
unfolding create_of
said-created = (refl, refl, refl)
