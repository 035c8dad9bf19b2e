-- One call more. Assumes nothing.
use mathlib.Core.Path.{◌≡◌, sym, ap, ◌∙◌, subst}
use mathlib.Core.List.{List, [], ◌∷◌, ◌++◌, append_assoc, append-nil}
use Rattle.history.specs.History.{World, Call, after, play, Entry, logged, log_of}
use Rattle.history.proofs.Log.{play-more, log-more}

pub play-one : (calls : List Call) (c : Call) (w : World) → play (calls ++ (c ∷ [])) w ≡ after c (play calls w)
unfolding play
play-one calls c w = play-more calls (c ∷ []) w

pub log-one : (calls : List Call) (c : Call) (w : World)
    → log_of (calls ++ (c ∷ [])) w ≡ log_of calls w ++ logged c (play calls w)
unfolding log_of
log-one calls c w =
    log-more calls (c ∷ []) w
    ∙ ap (λ (l : List Entry). log_of calls w ++ l) (append-nil (logged c (play calls w)))

-- what one call more keeps, any calls keep
pub by-calls : (P : List Call → Type 0) → ((calls : List Call) (c : Call) → P calls → P (calls ++ (c ∷ [])))
    → (calls more : List Call) → P calls → P (calls ++ more)
by-calls P f calls [] p = subst P (sym (append-nil calls)) p
by-calls P f calls (c ∷ more) p =
    subst P (append_assoc calls (c ∷ []) more) (by-calls P f (calls ++ (c ∷ [])) more (f calls c p))
