-- As long as the generation stays, the same configuration is in force.
use Rattle.std.proofs.Common.{◌≡◌, ◌⊎◌, ℕ, ◌+◌, ◌≤◌, Bool, true, false, List, [], ◌∷◌, refl, sym, ◌∙◌, ap, subst, arith, inl, inr, ⊎_elim}
use Rattle.std.specs.Prelude.{fold, if◌then◌else◌}
use Rattle.std.specs.Option.{option_map_or}
use Rattle.std.proofs.lemmas.List.Sums.{fold-append}
use Rattle.fdp_base.specs.declared.command.Command.{Command}
use Rattle.fdp_base.specs.declared.config.DriveConfig.{DriveConfig}
use Rattle.fdp_base.specs.declared.entry.Entry.{Entry}
use Rattle.fdp_base.specs.declared.entry.Entry.TheVariants as entries
use Rattle.fdp_base.specs.declared.entry.Host.{Host}
use Rattle.fdp_base.proofs.Entries.{by-host}
use Rattle.fdp_image.specs.Kept.{IsBeginning}
use Rattle.fdp_isolation.specs.Stays.{IsSameSetting}
use Rattle.fdp_rules.specs.Change.{after, changed_by}
use Rattle.fdp_rules.specs.Effect.{effect_of}
use Rattle.fdp_rules.specs.History.{Found, state_of}
use Rattle.fdp_rules.specs.PlainState.{PlainState}
use Rattle.fdp_rules.proofs.Effects.{by-effect}
use Rattle.fdp_rules.proofs.LastWrites.{keeps_data}

-- the same is in force, or the next generation
abbrev SetsNext : PlainState → PlainState → Type 0
SetsNext old new = IsSameSetting old new ⊎ (new.generation ≡ old.generation + 1)

same : (s : PlainState) → IsSameSetting s s
same s = record { enabled = refl; index = refl; generation = refl }

effect-sets : (c : DriveConfig) (s : PlainState) (queue : ℕ) (command : Command) → SetsNext s (effect_of c s queue command)
unfolding effect_of
effect-sets c s queue command =
    by-effect (λ x. SetsNext s (effect_of c s queue x)) (record {
      write = λ w. inl (record { enabled = refl; index = refl; generation = refl });
      zero = λ z. inl (record { enabled = refl; index = refl; generation = refl });
      dealloc = λ d. inl (record { enabled = refl; index = refl; generation = refl });
      delete = λ d. inl (record { enabled = refl; index = refl; generation = refl });
      update = λ u. inl (record { enabled = refl; index = refl; generation = refl });
      set_fdp = λ x. inr refl;
      set_events = λ x. inl (record { enabled = refl; index = refl; generation = refl });
      create = λ x. inl (record { enabled = refl; index = refl; generation = refl });
      nothing = λ x none. inl (subst (IsSameSetting s) (sym (none.state c s queue)) (same s));
    }) command

host-sets : (c : DriveConfig) (s : PlainState) (h : Host) → SetsNext s (after c s (entries.Host h))
unfolding after changed_by
host-sets c s h = ⊎_elim
    (λ (is : IsSameSetting s (if h.reply.applied then effect_of c s h.queue h.command else s)). inl (record { enabled = is.enabled; index = is.index; generation = is.generation }))
    (λ next. inr next)
    (made h.reply.applied) where
      made : (b : Bool) → SetsNext s (if b then effect_of c s h.queue h.command else s)
      made true = effect-sets c s h.queue h.command
      made false = inl (same s)

entry-sets : (c : DriveConfig) (s : PlainState) (e : Entry) → SetsNext s (after c s e)
entry-sets c s e =
    by-host (λ x. SetsNext s (after c s x)) (λ h. host-sets c s h)
    (λ x none. let keeps = keeps_data c s x (ap (λ o. option_map_or (λ (h : Host). h.reply.applied) o false) none) in inl (record { enabled = keeps.enabled; index = keeps.index; generation = keeps.generation }))
    e

-- no entry takes the generation back, and while it stays the same is in force
record Goes (old new : PlainState) : Type 0 where
  later : old.generation ≤ new.generation
  stays : new.generation ≡ old.generation → IsSameSetting old new

goes : (c : DriveConfig) (s : PlainState) (es : List Entry) → Goes s (fold (after c) s es)
goes c s [] = record { later = omega arith; stays = λ e. same s }
goes c s (e ∷ es) =
    let rest = goes c (after c s e) es in
    ⊎_elim
    (λ (is : IsSameSetting s (after c s e)). record {
      later = let low = rest.later in let one = is.generation in omega (arith, low, one);
      stays = λ equal.
          let far = rest.stays (equal ∙ sym is.generation) in
          record { enabled = far.enabled ∙ is.enabled; index = far.index ∙ is.index; generation = equal };
    })
    (λ (next : (after c s e).generation ≡ s.generation + 1). record {
      later = let low = rest.later in omega (arith, low, next);
      stays = λ equal. let low = rest.later in absurd (omega (arith, low, next, equal));
    })
    (entry-sets c s e)

-- a beginning of a history with the generation that is in force has the configuration that is in force
pub beginning-setting : (c : DriveConfig) (f : Found) (es kept lost : List Entry) → IsBeginning es kept lost → (state_of c f kept).generation ≡ (state_of c f es).generation → IsSameSetting (state_of c f kept) (state_of c f es)
unfolding state_of
beginning-setting c f es kept lost is equal =
    let whole : state_of c f es ≡ fold (after c) (state_of c f kept) lost = ap (state_of c f) is.split ∙ fold-append (after c) _ kept lost in
    subst (IsSameSetting (state_of c f kept)) (sym whole)
    ((goes c (state_of c f kept) lost).stays (sym (ap (λ (s : PlainState). s.generation) whole) ∙ sym equal))
