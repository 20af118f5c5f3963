-- What a run found that began in order.
use Rattle.std.proofs.Common.{◌≡◌, ◌⊎◌, ℕ, List, [], ◌∷◌, length, Option, Some, None, refl, subst, ⊎_elim}
use Rattle.std.proofs.lemmas.List.{length-replicate}
use Rattle.std.specs.Option.{option_map_or}
use Rattle.fdp_base.specs.declared.config.DriveConfig.{DriveConfig}
use Rattle.fdp_base.specs.declared.entry.Entry.{Entry}
use Rattle.fdp_base.specs.declared.entry.Entry.TheVariants as entries
use Rattle.fdp_history.specs.Orderly.{IsOrderly}
use Rattle.fdp_rules.specs.Answer.{read_block}
use Rattle.fdp_rules.specs.Change.{after, changed_by}
use Rattle.fdp_rules.specs.History.{Found, point_of, state_of}
use Rattle.fdp_rules.specs.LogPages.{zeros}
use Rattle.fdp_rules.specs.PlainState.{Block}
use Rattle.fdp_make.specs.Served.{FindsWholeBlocks}

whole-block : (c : DriveConfig) (o : Option Block) → ((b : Block) → o ≡ Some b → length b.bytes ≡ c.block) → length (option_map_or (λ (b : Block). b.bytes) o (zeros c.block)) ≡ c.block
whole-block c None h = length-replicate c.block 0
whole-block c (Some b) h = h b refl

whole-state : (c : DriveConfig) (f : Found) (es : List Entry) → IsOrderly c (point_of c f es) → (nsid lba : ℕ) → length (read_block c (state_of c f es) nsid lba) ≡ c.block
unfolding point_of
whole-state c f es h nsid lba = whole-block c ((state_of c f es).blocks nsid lba) (λ b is. (h.state.blocks nsid lba b is).bytes)

-- an opening leaves the blocks
opened-blocks : (c : DriveConfig) (f : Found) → (state_of c f (entries.Reopened ∷ [])).blocks ≡ (state_of c f []).blocks
unfolding state_of after changed_by
opened-blocks c f = refl

pub orderly-whole : (c : DriveConfig) (f : Found) (es : List Entry) → IsOrderly c (point_of c f es) → (es ≡ []) ⊎ (es ≡ entries.Reopened ∷ []) → FindsWholeBlocks c f
orderly-whole c f es h begun nsid lba =
    ⊎_elim
    (λ (none : es ≡ []). subst (λ (xs : List Entry). length (read_block c (state_of c f xs) nsid lba) ≡ c.block) none (whole-state c f es h nsid lba))
    (λ (one : es ≡ entries.Reopened ∷ []).
    subst (λ (blocks : ℕ → ℕ → Option Block). length (option_map_or (λ (b : Block). b.bytes) (blocks nsid lba) (zeros c.block)) ≡ c.block) (opened-blocks c f)
    (subst (λ (xs : List Entry). length (read_block c (state_of c f xs) nsid lba) ≡ c.block) one (whole-state c f es h nsid lba)))
    begun
