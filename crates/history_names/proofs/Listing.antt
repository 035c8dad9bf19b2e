-- A listing of a table of names: the next name from each bucket, and the whole of it, in bucket order and each once.
-- Assumes nothing.
use Prim.Native.Nat.{ℕ, zero, suc, ◌+◌, ◌-◌, ◌≤◌, ◌<◌}
use mathlib.Core.Path.{◌≡◌, refl, sym, ap, ◌∙◌}
use mathlib.Core.Logic.{◌⊎◌, inl, inr}
use mathlib.Core.Bool.{Bool, true, false, cond}
use mathlib.Core.Option.{Option, none, some}
use mathlib.Core.List.{List, [], ◌∷◌, map}
use native.Mathlib.Nat.{suc_inj}
use native.Mathlib.Numerals.{add-one}
use native.Mathlib.Decide.{ℕ_discrete}
use native.Mathlib.Omega.{arith}
use lib.ListN.{length, drop, drop_of_length-le, get_or-eq_default}
use lib.Seq.{drop-cons, get_or-drop}
use Rattle.fastcmp.proofs.Laws.{equal_same, equal_not}
use Rattle.memory_arena.specs.declared.Arena.{Arena}
use Rattle.std.specs.Prelude.{Option as Maybe, Some, None}
use Rattle.shared_arena_hashmap.specs.declared.Occupied.{Occupied}
use Rattle.shared_arena_hashmap.specs.Buckets.{address_at, empty_at}
use Rattle.records.specs.Record.{key_at}
use Rattle.shared_arena_hashmap.specs.Probe.{occupied_by, occupied_from}
use Rattle.history_names.specs.Table.{Names, name_at, Member, occupied, Shows, Table, Records}
use Rattle.history_names.specs.Listing.{FirstName, NoName, in_order, times, listed_next, listing}
use Rattle.history_names.proofs.Walk.{named-below, clash, renamed}
use Rattle.history_names.proofs.Lookup.{empty_bucket, named-bucket, named-shows}

-- ---- the names in order

-- as many as the table has
pub order_length : (g : Names) → length (in_order g) ≡ occupied g
order_length [] = refl
order_length (none ∷ g) = order_length g
order_length (some k ∷ g) = ap suc (order_length g)

-- none from a bucket on; and the first from a bucket on, then those behind it
order_none : (g : Names) → ((x : ℕ) → name_at g x ≡ none) → in_order g ≡ []
order_none [] f = refl
order_none (none ∷ g) f = order_none g (λ x. f (suc x))
order_none (some k ∷ g) f = clash (f 0) refl

order_end : (g : Names) (i : ℕ) → NoName g i → in_order (drop i g) ≡ []
order_end g i f = order_none (drop i g) (λ x. get_or-drop i g x none ∙ f (i + x) (omega arith))

order_first : (g : Names) (m i j : ℕ) (k : List ℕ) → j ≡ i + m → FirstName g i j k
    → in_order (drop i g) ≡ k ∷ in_order (drop (j + 1) g)
order_first g zero i j k e F =
    let p : i ≡ j = omega arith in
    rw (p, add-one j, drop-cons g j none (named-below g j k F.named), F.named)
order_first g (suc m) i j k e F =
    rw (drop-cons g i none (omega (arith, named-below g j k F.named)), F.least i (omega arith) (omega arith))
    (order_first g m (suc i) j k (omega arith)
    (record { from = omega arith; named = F.named; least = λ x p q. F.least x (omega arith) q }))

-- each as often as it stands
times_none : (k : List ℕ) (g : Names) → (Member k g → ⊥) → times k (in_order g) ≡ 0
unfolding times
times_none k [] f = refl
times_none k (none ∷ g) f = times_none k g (λ m. f (suc m.0, m.1))
times_none k (some y ∷ g) f =
    rw (equal_not k y (λ e. f (0, renamed refl (sym e)))) (times_none k g (λ m. f (suc m.0, m.1)))

times_once : (k : List ℕ) (g : Names) → ((i j : ℕ) → name_at g i ≡ some k → name_at g j ≡ some k → i ≡ j)
    → (i : ℕ) → name_at g i ≡ some k → times k (in_order g) ≡ 1
unfolding times
times_once k [] f i e = clash refl e
times_once k (none ∷ g) f zero e = clash refl e
times_once k (none ∷ g) f (suc i) e = times_once k g (λ i j p q. suc_inj (f (suc i) (suc j) p q)) i e
times_once k (some y ∷ g) f zero e =
    let q : k ≡ y = cc in
    rw (equal_same k y q) (ap suc (times_none k g (λ m. absurd (omega (arith, f 0 (suc m.0) e m.1)))))
times_once k (some y ∷ g) f (suc i) e =
    rw (equal_not k y (λ q. absurd (omega (arith, f 0 (suc i) (renamed refl (sym q)) e))))
    (times_once k g (λ i j p q. suc_inj (f (suc i) (suc j) p q)) i e)

-- what is made of the names' addresses in the way that gives a name back
order_back : (g : Names) (adr : List ℕ → ℕ) (f : ℕ → List ℕ) → ((k : List ℕ) → Member k g → f (adr k) ≡ k)
    → map f (map adr (in_order g)) ≡ in_order g
order_back [] adr f h = refl
order_back (none ∷ g) adr f h = order_back g adr f (λ k m. h k (suc m.0, m.1))
order_back (some k ∷ g) adr f h = λ i. h k (0, refl) i ∷ order_back g adr f (λ k m. h k (suc m.0, m.1)) i

-- ---- the next name

next-turn : (t : List ℕ) (first n i : ℕ) (b : Bool) → empty_at t (first + i) ≡ b
    → occupied_from t first (suc n) i ≡ cond b (occupied_from t first n (i + 1)) (Some (occupied_by i (address_at t (first + i))))
unfolding occupied_from
next-turn t first n i b e =
    ap (λ (b : Bool). cond b (occupied_from t first n (i + 1)) (Some (occupied_by i (address_at t (first + i))))) e

next-end : (t : List ℕ) (first i : ℕ) → occupied_from t first zero i ≡ None
unfolding occupied_from
next-end t first i = refl

listing-turn : (t : List ℕ) (first l n i : ℕ) (x : Maybe Occupied) → occupied_from t first (l - i) i ≡ x
    → listing t first l (suc n) i ≡ listed_next x (λ j. listing t first l n j)
unfolding listing
listing-turn t first l n i x e = ap (λ (x : Maybe Occupied). listed_next x (λ j. listing t first l n j)) e

listing-end : (t : List ℕ) (first l i : ℕ) → listing t first l zero i ≡ []
unfolding listing
listing-end t first l i = refl

module _ {t : List ℕ} {first l : ℕ} {hash adr : List ℕ → ℕ} {g : Names} (T : Table t first l hash adr g) where
  abbrev Meets : ℕ → ℕ → Type 0
  Meets n i = ((j : ℕ) × (k : List ℕ) × FirstName g i j k × (occupied_from t first n i ≡ Some (occupied_by j (adr k))))
      ⊎ (NoName g i × (occupied_from t first n i ≡ None))

  meets : (n i : ℕ) → n ≡ l - i → Meets n i
  meets zero i e = inr ((λ x h. get_or-eq_default g none (omega (arith, T.long))), next-end t first i)
  meets (suc n) i e = go (name_at g i) refl (meets n (i + 1) (omega arith))
    where
      below : i < l
      below = omega arith

      on : (x : ℕ) → name_at g i ≡ none → i ≤ x → (i + 1 ≤ x → name_at g x ≡ none) → name_at g x ≡ none
      on x p h f = here (ℕ_discrete i x)
        where
          here : Dec (i ≡ x) → name_at g x ≡ none
          here (yes q) = ap (name_at g) (sym q) ∙ p
          here (no q) = f (omega arith)

      go : (o : Option (List ℕ)) → name_at g i ≡ o → Meets n (i + 1) → Meets (suc n) i
      go none p (inl r) =
          inl (
            r.0,
            r.1,
            record {
              from = omega (arith, r.2.from);
              named = r.2.named;
              least = λ x h q. on x p h (λ h. r.2.least x h q);
            },
            next-turn t first n i true (empty_bucket T i below p) ∙ r.3,
          )
      go none p (inr r) = inr ((λ x h. on x p h (r.0 x)), next-turn t first n i true (empty_bucket T i below p) ∙ r.1)
      go (some k) p r =
          let s : Shows t (first + i) hash adr (some k) = named-shows T i k p in
          inl (
            i,
            k,
            record { from = omega arith; named = p; least = λ x h q. absurd (omega arith) },
            next-turn t first n i false (named-bucket T i k p) ∙ ap (λ (at : ℕ). Some (occupied_by i at)) s.0,
          )

  -- the next occupied bucket from i is the first with a name, and its record is the name's; there is none where no name
  -- stands
  pub lists-next : (i : ℕ)
      → ((j : ℕ) × (k : List ℕ) × FirstName g i j k × (occupied_from t first (l - i) i ≡ Some (occupied_by j (adr k))))
      ⊎ (NoName g i × (occupied_from t first (l - i) i ≡ None))
  lists-next i = meets (l - i) i refl

  listing_from : (n i : ℕ) → l ≤ n + i → listing t first l n i ≡ map adr (in_order (drop i g))
  listing_from zero i h = rw (listing-end t first l i, drop_of_length-le g {i = i} (omega (arith, T.long)))
  listing_from (suc n) i h = go (lists-next i) (λ j h. listing_from n j h)
    where
      go : Meets (l - i) i → ((j : ℕ) → l ≤ n + j → listing t first l n j ≡ map adr (in_order (drop j g)))
          → listing t first l (suc n) i ≡ map adr (in_order (drop i g))
      go (inl r) ih =
          listing-turn t first l n i (Some (occupied_by r.0 (adr r.1))) r.3
          ∙ ap (λ (rest : List ℕ). adr r.1 ∷ rest) (ih (r.0 + 1) (omega (arith, r.2.from)))
          ∙ sym (ap (map adr) (order_first g (r.0 - i) i r.0 r.1 (omega (arith, r.2.from)) r.2))
      go (inr r) ih = rw (order_end g i r.0, listing-turn t first l n i None r.1)

  -- going through from bucket 0 gives the addresses of all names' records in bucket order
  pub lists-all : listing t first l l 0 ≡ map adr (in_order g)
  lists-all = listing_from l 0 (omega arith)

  -- so every name once, and no other
  pub lists_once : (k : List ℕ) → Member k g → times k (in_order g) ≡ 1
  lists_once k m = times_once k g (T.once k) m.0 m.1

  pub lists_only : (k : List ℕ) → (Member k g → ⊥) → times k (in_order g) ≡ 0
  lists_only k f = times_none k g f

  -- the keys of the records that are listed are those names
  pub lists-names : (keys : List ℕ) (a : Arena) → Records keys a adr g
      → map (key_at keys) (listing t first l l 0) ≡ in_order g
  lists-names keys a R = ap (map (key_at keys)) lists-all ∙ order_back g adr (key_at keys) (λ k m. (R k m).1)
