-- RULES AI5, AI6, AI8 to AI10. Document 02, Thirteen: what a join comes to. On any two memories it is the appends of
-- the lanes that went across, played on the first store: so every theorem about histories holds after it, without being
-- proved again. `joins_any` of proofs/Brought.antt proves `JoinsAny`, and `halves-joined` of proofs/Halves.antt
-- `HalvesJoined`, of every two stores that accepted creations made and of any calls on each.
use Rattle.std.specs.Prelude.{ℕ, ◌+◌, ◌≤◌, ◌<◌, ◌≡◌, ◌⊎◌, true, false, cond, ◌&&◌, List, [], ◌∷◌, ◌++◌, map, length, take, drop}
use Rattle.std.proofs.Math.Option.{Option, none, some}
use Rattle.limits.specs.Refusals.{number_in}
use Rattle.spans.specs.Span.{overwrite}
use Rattle.store_state.specs.declared.State.{State}
use Rattle.store_state.specs.Name.{name_limit_of}
use Rattle.store_look.specs.Look.{checked}
use Rattle.store_append.specs.Append.{declined}
use Rattle.history.specs.History.{World, Call, appends, append_in, play, Entry, entry, log_of, joined_on, joined, among}
use Rattle.history.specs.Due.{due}
use Rattle.history.specs.Promises.{ReadsAs, listed_names}
use Rattle.history.specs.Demand.{Demand3}
use Rattle.join.specs.declared.Joined.{Joined}
use Rattle.join.specs.declared.Joined.TheVariants.{Whole, Halted}
use Rattle.join.specs.Join.{store, Told, lane, broken, told_by, stopped, join_of, lanes_in, brought_by}
use Rattle.join.specs.Said.{said_joined}

-- ---- what a join leaves

-- RULES AI5. The first store, the number (0 where all lanes went across), and the lanes that did.
abbrev pub state_in : Joined → State
state_in (Whole st k) = st
state_in (Halted st n k) = st

-- RULES AI5.
abbrev pub first_after : World → World → List ℕ → World
first_after w v s = store (state_in (join_of w v s).answer) (join_of w v s).memory

-- RULES AI5.
abbrev pub join_number : World → World → List ℕ → ℕ
join_number w v s = number_in (said_joined (join_of w v s).answer)

-- RULES AI5.
abbrev pub lanes_across : World → World → List ℕ → ℕ
lanes_across w v s = lanes_in (join_of w v s).answer

-- ---- on any two memories

-- RULES AI5. Lanes as entries of a log.
unfoldable pub entries_of : List Told → List Entry
entries_of [] = []
entries_of (broken n ∷ ls) = entries_of ls
entries_of (lane a ∷ ls) = entry a.name a.bytes ∷ entries_of ls

-- RULES AI6. The scratch after lanes were read into it, one over the other.
unfoldable pub overlaid : List Told → List ℕ → List ℕ
unfolding overwrite
overlaid [] s = s
overlaid (broken n ∷ ls) s = s
overlaid (lane a ∷ ls) s = overlaid ls (overwrite 0 a.bytes s)

-- RULES AI6. Why it ended where these lanes were left, in the first store as it was then and with a scratch of so many
-- bytes: the number, and how many lanes more were read into the scratch than went across.
abbrev pub Ends : List Told → World → ℕ → ℕ → ℕ → Type 0
Ends [] w room n more = (n ≡ 0) × (more ≡ 0)
Ends (broken e ∷ ls) w room n more = (n ≡ e) × (more ≡ 0)
Ends (lane a ∷ ls) w room n more =
    ((room < length a.bytes) × (n ≡ 8) × (more ≡ 0))
    ⊎ ((length a.bytes ≤ room) × (append_in w a.name a.bytes ≡ declined w.state w.memory n) × (more ≡ 1))

-- RULES AI6.
pub record JoinEnds (w v : World) (s : List ℕ) : Type 0 where
  pub more : ℕ
  pub why : Ends (drop (lanes_across w v s) (told_by v)) (first_after w v s) (length s) (join_number w v s) more
  -- "The scratch front holds the last lane read"
  pub overlay : (join_of w v s).scratch ≡ overlaid (take (lanes_across w v s + more) (told_by v)) s

-- RULES AI5, AI6.
pub record JoinsAny (w v : World) (s : List ℕ) : Type 0 where
  -- the first store afterwards is the appends of the lanes that went across, played, and each was accepted
  pub front : lanes_across w v s ≤ length (told_by v)
  pub played : first_after w v s ≡ play (brought_by w v s) w
  pub accepted : log_of (brought_by w v s) w ≡ entries_of (take (lanes_across w v s) (told_by v))
  -- a state that isn't whole: nothing has changed
  pub unchecked : (checked w.state w.memory && checked v.state v.memory) ≡ false
      → join_of w v s ≡ stopped 2 w 0 s
  -- else why it ended, and what the scratch holds
  pub ended : checked w.state w.memory ≡ true → checked v.state v.memory ≡ true → JoinEnds w v s

-- ---- two halves of a shift

-- RULES AI8. The bytes of a lane that stands
abbrev pub bytes_or : Option (List ℕ) → List ℕ
bytes_or none = []
bytes_or (some bs) = bs

-- RULES AI8. A lane's own bytes, and then the other half's.
abbrev pub halves : Option (List ℕ) → Option (List ℕ) → Option (List ℕ)
halves stood none = stood
halves stood (some bs) = joined_on stood bs

-- RULES AI8. The names of the lanes that went across: the first of those that the second store lists.
abbrev pub crossed : World → World → List ℕ → List (List ℕ)
crossed w v s = take (lanes_across w v s) (listed_names v)

-- RULES AI8. What each name has come to
abbrev pub halves_of : List ℕ → List (List ℕ) → Option (List ℕ) → Option (List ℕ) → Option (List ℕ)
halves_of j went own other = cond (among j went) (halves own other) own

-- RULES AI8, AI9, AI10. W and v are stores at their start, with any seeds, page sizes, lengths and
-- tables; calls were made on each.
pub record HalvesJoined (w v : World) (calls calls₂ : List Call) (s : List ℕ) : Type 0 where
  -- the first store is its own history, and the second's lanes behind it, each as one accepted append
  pub brought : brought_by (play calls w) (play calls₂ v) s
      ≡ map (λ k. appends k (bytes_or (joined k calls₂ v))) (crossed (play calls w) (play calls₂ v) s)
  pub played : first_after (play calls w) (play calls₂ v) s
      ≡ play (calls ++ brought_by (play calls w) (play calls₂ v) s) w
  pub demand_3 : Demand3 w (calls ++ brought_by (play calls w) (play calls₂ v) s)
  -- a lane that went across is its own bytes and then the other half's, every other is what it was; and so it reads
  pub lanes : (j : List ℕ) → joined j (calls ++ brought_by (play calls w) (play calls₂ v) s) w
      ≡ halves_of j (crossed (play calls w) (play calls₂ v) s) (joined j calls w) (joined j calls₂ v)
  pub reads : (j : List ℕ) → length j ≤ name_limit_of w.state
      → ReadsAs (first_after (play calls w) (play calls₂ v) s) j
      (halves_of j (crossed (play calls w) (play calls₂ v) s) (joined j calls w) (joined j calls₂ v))
  -- a whole join keeps both records
  pub none_left : drop (lanes_across (play calls w) (play calls₂ v) s) (listed_names (play calls₂ v)) ≡ []
      → join_number (play calls w) (play calls₂ v) s ≡ 0
  pub all-crossed : join_number (play calls w) (play calls₂ v) s ≡ 0
      → crossed (play calls w) (play calls₂ v) s ≡ listed_names (play calls₂ v)
  pub reads_whole : join_number (play calls w) (play calls₂ v) s ≡ 0 → (j : List ℕ) → length j ≤ name_limit_of w.state
      → ReadsAs (first_after (play calls w) (play calls₂ v) s) j (halves (joined j calls w) (joined j calls₂ v))
  -- a stopped one says exactly which lanes went: those before the lane whose number it has. That is 8 where the lane is
  -- longer than the scratch, else the number that its append is due
  pub stopped_at : (name : List ℕ) (rest : List (List ℕ))
      → drop (lanes_across (play calls w) (play calls₂ v) s) (listed_names (play calls₂ v)) ≡ name ∷ rest
      → ((length s < length (bytes_or (joined name calls₂ v))) × (join_number (play calls w) (play calls₂ v) s ≡ 8))
      ⊎ ((length (bytes_or (joined name calls₂ v)) ≤ length s)
      × (join_number (play calls w) (play calls₂ v) s
      ≡ due (first_after (play calls w) (play calls₂ v) s).state (first_after (play calls w) (play calls₂ v) s).memory
      name (joined name (calls ++ brought_by (play calls w) (play calls₂ v) s) w)
      (length (bytes_or (joined name calls₂ v)))))
  -- and damage is never met
  pub never_2_or_4 : (join_number (play calls w) (play calls₂ v) s ≡ 2 → ⊥)
      × (join_number (play calls w) (play calls₂ v) s ≡ 4 → ⊥)
