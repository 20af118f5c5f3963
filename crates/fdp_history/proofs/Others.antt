-- What entries that are no completions, starts or placed pages leave of the going writes.
use Rattle.std.proofs.Common.{◌≡◌, ◌⊎◌, ⊎_elim, inl, inr, ℕ, Option, Some, refl, sym, ◌∙◌, ap, subst}
use Rattle.fdp_base.specs.declared.config.DriveConfig.{DriveConfig}
use Rattle.fdp_base.specs.declared.entry.Entry.{Entry}
use Rattle.fdp_base.specs.declared.entry.Entry.TheVariants as entries
use Rattle.fdp_base.specs.EntryKinds.{ServesNone}
use Rattle.fdp_rules.specs.Change.{changed_by}
use Rattle.fdp_rules.specs.PlainState.{Going, PlainState}

-- it leaves them as they are, or opens the drive
pub others-going : (c : DriveConfig) (s : PlainState) (e : Entry) → ServesNone e → ((changed_by c s e).going ≡ s.going) ⊎ (e ≡ entries.Reopened)
unfolding changed_by
others-going c s (entries.Host h) other = let none = other.host in absurd cc
others-going c s (entries.Started started) other = let none = other.started in absurd cc
others-going c s (entries.Placed p) other = let none = other.placed in absurd cc
others-going c s (entries.Copied copied) other = inl refl
others-going c s (entries.Moved m) other = inl refl
others-going c s (entries.Erased e) other = inl refl
others-going c s (entries.Retired r) other = inl refl
others-going c s (entries.Aside a) other = inl refl
others-going c s (entries.Shut shut) other = inl refl
others-going c s (entries.Worn w) other = inl refl
others-going c s entries.Reopened other = inr refl

-- no write is going when a drive was opened
none-opened : (c : DriveConfig) (s : PlainState) (queue : ℕ) (g : Going) → (changed_by c s entries.Reopened).going queue ≡ Some g → ⊥
unfolding changed_by
none-opened c s queue g some = cc

-- a write that is going after it was going before
pub others-before : (c : DriveConfig) (s : PlainState) (e : Entry) → ServesNone e → (queue : ℕ) (g : Going) → (changed_by c s e).going queue ≡ Some g → s.going queue ≡ Some g
others-before c s e other queue g some =
    ⊎_elim
    (λ same. sym (ap (λ (going : ℕ → Option Going). going queue) same) ∙ some)
    (λ opened. absurd (none-opened c s queue g (subst (λ (x : Entry). (changed_by c s x).going queue ≡ Some g) opened some)))
    (others-going c s e other)
