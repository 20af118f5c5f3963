-- What a successful read of a load found.
use Rattle.std.proofs.Common.{◌≡◌, ℕ, zero, suc, ◌+◌, ◌*◌, ◌<◌, Bool, true, false, List, [], ◌∷◌, ◌++◌, length, take, drop, flat_map, Some, refl, sym, ◌∙◌, ap, subst, arith, ⊎_elim}
use Rattle.std.specs.Prelude.{nat_lt}
use Rattle.std.proofs.lemmas.Bool.{both_ways, true≢false}
use Rattle.std.proofs.lemmas.List.{drop-drop, drop_at, take_at}
use Rattle.fdp_base.specs.declared.command.Command.TheVariants as commands
use Rattle.fdp_base.specs.declared.command.Read.{Read}
use Rattle.fdp_base.specs.declared.config.DriveConfig.{DriveConfig}
use Rattle.fdp_base.specs.declared.entry.Entry.{Entry}
use Rattle.fdp_base.specs.declared.entry.Entry.TheVariants as entries
use Rattle.fdp_base.specs.declared.entry.Reply.{Reply}
use Rattle.fdp_base.specs.declared.status.Status.{Status}
use Rattle.fdp_base.specs.declared.status.TheConstants.Status as statuses
use Rattle.fdp_base.specs.Numbers.{numbers_from}
use Rattle.fdp_rules.specs.Answer.{read_block}
use Rattle.fdp_rules.specs.Change.{is_status}
use Rattle.fdp_rules.specs.History.{Found, point_of, state_of}
use Rattle.fdp_rules.specs.Point.{Point}
use Rattle.fdp_rules.specs.Refusal.{checks_of, first_that_holds, is_absent, is_past_end, refusal_of, ◌⟶◌}
use Rattle.fdp_rules.specs.Step.{Follows, IsStep}

-- one of three checks is no success
three-checks : (a b d : Bool) (status : Status) → first_that_holds ((a ⟶ statuses.INVALID_NAMESPACE) ∷ (b ⟶ statuses.INVALID_FIELD) ∷ (d ⟶ statuses.LBA_OUT_OF_RANGE) ∷ []) ≡ Some status
    → is_status status statuses.SUCCESS ≡ false
three-checks true b d status h = let e : statuses.INVALID_NAMESPACE ≡ status = cc in subst (λ (s : Status). is_status s statuses.SUCCESS ≡ false) e refl
three-checks false true d status h = let e : statuses.INVALID_FIELD ≡ status = cc in subst (λ (s : Status). is_status s statuses.SUCCESS ≡ false) e refl
three-checks false false true status h = let e : statuses.LBA_OUT_OF_RANGE ≡ status = cc in subst (λ (s : Status). is_status s statuses.SUCCESS ≡ false) e refl
three-checks false false false status h = absurd cc

refused-fails : (c : DriveConfig) (p : Point) (r : Read) (status : Status) → refusal_of c p (commands.Read r) ≡ Some status → is_status status statuses.SUCCESS ≡ false
unfolding refusal_of checks_of
refused-fails c p r status h = three-checks (is_absent p.state r.nsid) (nat_lt c.blocks_per_command r.count) (is_past_end p.state r.nsid r.slba r.count) status h

-- the data of a successful read are the blocks
pub read-data : (c : DriveConfig) (f : Found) (before : List Entry) (queue number : ℕ) (r : Read) (reply : Reply) (moment : ℕ)
    → IsStep true c f before (entries.Host (record { queue = queue; number = number; command = commands.Read r; reply = reply; moment = moment }))
    → is_status reply.status statuses.SUCCESS ≡ true → reply.bytes ≡ flat_map (read_block c (state_of c f before) r.nsid) (numbers_from r.slba r.count)
unfolding Follows point_of
read-data c f before queue number r reply moment step success =
    let p : Point = point_of c f before in
    let fails : (status : Status) → reply.status ≡ status → is_status status statuses.SUCCESS ≡ false → ⊥ =
    λ status is no. both_ways (is_status status statuses.SUCCESS) no (subst (λ (s : Status). is_status s statuses.SUCCESS ≡ true) is success) in
    ⊎_elim
    (λ refused. absurd (fails refused.0 (ap (λ (x : Reply). x.status) refused.2) (refused-fails c p r refused.0 refused.1)))
    (λ served.
    ⊎_elim
    (λ done. done.1.bytes_are refl)
    (λ failed.
    ⊎_elim
    (λ lost. absurd (fails statuses.UNRECOVERED_READ_ERROR (ap (λ (x : Reply). x.status) lost.1) refl))
    (λ saved. absurd (true≢false (sym saved.0)))
    failed.2)
    served)
    step.replied

-- ---- a block of what a read found

pub cut-flat : (g : ℕ → List ℕ) (block : ℕ) → ((n : ℕ) → length (g n) ≡ block) → (first count i : ℕ) → i < count → take block (drop (i * block) (flat_map g (numbers_from first count))) ≡ g (first + i)
unfolding numbers_from
cut-flat g block whole first zero i below = absurd (omega (arith, below))
cut-flat g block whole first (suc count) zero below =
    let none : 0 * block ≡ 0 = omega arith in
    let same : first ≡ first + 0 = omega arith in
    let rest : List ℕ = flat_map g (numbers_from (first + 1) count) in
    ap (λ (n : ℕ). take block (drop n (g first ++ rest))) none ∙ take_at (g first) rest block (whole first) ∙ ap g same
cut-flat g block whole first (suc count) (suc i) below =
    let more : suc i * block ≡ block + i * block = omega arith in
    let same : first + 1 + i ≡ first + suc i = omega arith in
    let rest : List ℕ = flat_map g (numbers_from (first + 1) count) in
    ap (λ (n : ℕ). take block (drop n (g first ++ rest))) more
    ∙ ap (take block) (sym (drop-drop (i * block) block (g first ++ rest)) ∙ ap (drop (i * block)) (drop_at (g first) rest block (whole first)))
    ∙ cut-flat g block whole (first + 1) count i (omega (arith, below))
    ∙ ap g same
