-- What the entries of others, and each change of the pointers, leave of the pass of a group.
use Rattle.std.proofs.Common.{◌≡◌, ◌≢◌, ℕ, Bool, true, cond, List, [], ◌∷◌, ◌++◌, Option, Some, None, refl, sym, ◌∙◌, ap, subst, map, ne_eqb, ⊎_elim}
use Rattle.std.specs.Prelude.{All, IfSome, IsTrue}
use Rattle.std.specs.Option.{option_map_or}
use Rattle.std.proofs.lemmas.List.Elements.{All-cons, All-head, All-nil, All-tail, All-weaker}
use Rattle.fdp_base.specs.declared.config.DriveConfig.{DriveConfig}
use Rattle.fdp_base.specs.declared.entry.BlockName.{BlockName}
use Rattle.fdp_base.specs.declared.entry.Copied.{Copied}
use Rattle.fdp_base.specs.declared.entry.Entry.{Entry}
use Rattle.fdp_base.specs.declared.entry.Entry.TheVariants as entries
use Rattle.fdp_base.specs.declared.entry.Placed.{Placed}
use Rattle.fdp_base.specs.declared.entry.Spot.{Spot}
use Rattle.fdp_base.specs.Numbers.{with_at}
use Rattle.fdp_rules.specs.Next.{next}
use Rattle.fdp_rules.specs.Point.{Copy, Point, Trail}
use Rattle.fdp_rules.specs.Sites.{ascends, group_of, last_run, moved_by, pass_in, traced_by}
use Rattle.fdp_history.specs.Orderly.{IsOrderly, IsOrderlyCopy}
use Rattle.fdp_history.proofs.Trails.{all-last_run}
use Rattle.fdp_pointers.specs.Contents.{leaves_pages, renamed_by}
use Rattle.fdp_pointers.specs.Facts.{Page, put_at}
use Rattle.fdp_pointers.specs.Pointers.{Behind, Pointer, moved, pointed, renamed}
use Rattle.fdp_pointers.proofs.Copies.{moved-cases}
use Rattle.fdp_pointers.proofs.Renaming.{behind-renamed, moved-from, pointed-cases}
use Rattle.fdp_passes.specs.GroupPasses.{GroupPasses, Pass}
use Rattle.fdp_trails.specs.Followed.{FollowsPass, IsCopyOf, IsDead, IsFollowed, IsPassOf, copy_of, ended_by}
use Rattle.fdp_trails.proofs.Runs.{IsBefore, front-before, run-ascends}

-- ---- lists

pub all-front : {X : Type 0} (P : X → Type 0) (xs ys : List X) → All P (xs ++ ys) → All P xs
all-front P [] ys h = All-nil P
all-front P (x ∷ xs) ys h = All-cons P x xs (All-head P x (xs ++ ys) h) (all-front P xs ys (All-tail P x (xs ++ ys) h))

pub all-back : {X : Type 0} (P : X → Type 0) (xs ys : List X) → All P (xs ++ ys) → All P ys
all-back P [] ys h = h
all-back P (x ∷ xs) ys h = all-back P xs ys (All-tail P x (xs ++ ys) h)

pub all-with : {X : Type 0} (P Q R : X → Type 0) (xs : List X) → ((x : X) → P x → Q x → R x) → All P xs → All Q xs → All R xs
all-with P Q R xs f h k i d low = f _ (h i d low) (k i d low)

-- what holds of an option holds of its value
pub if-some : {X : Type 0} (P : X → Type 0) (o : Option X) (x : X) → o ≡ Some x → IfSome o P → P x
if-some {X} P o x e h = subst (λ (z : Option X). IfSome z P) e h

-- ---- a dead copy

pub dead-renamed : (r : Pointer → Option Pointer) (at : Behind Page) (x : Copy) → IsDead at x → IsDead (renamed r at) x
dead-renamed r at x h p y e = let was = behind-renamed r at p y e in h was.0 y was.2

pub dead-pointed : (at : Behind Page) (queue index : ℕ) (y : Page) (x : Copy) → y.spot.unit ≢ x.from.unit → IsDead at x → IsDead (pointed at queue index y) x
dead-pointed at queue index y x ne h p z e =
    ⊎_elim
    (λ here.
    let both : Some y ≡ Some z = sym here.1 ∙ e in
    let same : y ≡ z = cc in
    λ is. ne (ap (λ (o : Page). o.spot.unit) same ∙ ap (λ (s : Spot). s.unit) is))
    (λ there. h p z (sym there ∙ e))
    (pointed-cases at queue index y p)

-- a move of another group puts no page back to an old page
dead-moved : (c : DriveConfig) (at : Behind Page) (other rg : ℕ) (pass : List Copy) (x : Copy) → other ≢ rg → All (IsOrderlyCopy c other) pass → IsOrderlyCopy c rg x → IsDead at x → IsDead (moved (put_at (moved_by pass)) at) x
dead-moved c at other rg pass x ne copies here h p z e same =
    let was = moved-from (moved_by pass) (at p) z e in
    let goes_to : z.spot ≡ moved_by pass was.0.spot = ap (λ (y : Page). y.spot) was.2 in
    ⊎_elim
    (λ stays. h p was.0 was.1 (sym stays ∙ sym goes_to ∙ same))
    (λ goes. ne (sym goes.1.to_group ∙ ap (λ (s : Spot). group_of c s.unit) (sym goes.3 ∙ sym goes_to ∙ same) ∙ here.from_group))
    (moved-cases (IsOrderlyCopy c other) pass was.0.spot copies)

-- ---- a pass

-- the copies of a trail that follow a pass are of its victim
pub stale-before : (at : Behind Page) (t : Trail) (rg : ℕ) (z : Copied) (zs : List Copied) (h : FollowsPass at t rg (z ∷ zs)) → All (λ (x : Copy). IsBefore x (copy_of z)) h.stale
stale-before at t rg z zs h = front-before h.stale (copy_of z) (map copy_of zs) (subst (λ (l : List Copy). ascends l ≡ true) h.listed (run-ascends (t.copies rg)))

-- Q holds of each copy of the group, and the pointers changed but for those that could lead to an old page of the victim
module _ (at to : Behind Page) (t u : Trail) (rg : ℕ) (Q : Copy → Type 0) (same : u.copies rg ≡ t.copies rg) (all : All Q (t.copies rg)) where
  follows-changed : (victim : ℕ) (copies : List Copied) → ((x : Copy) → Q x → x.from.unit ≡ victim → IsDead at x → IsDead to x) → All (λ (x : Copied). x.from.unit ≡ victim) copies → (copies ≡ [] → ⊥) → FollowsPass at t rg copies → FollowsPass to u rg copies
  follows-changed victim [] change lie some h = absurd (some refl)
  follows-changed victim (z ∷ zs) change lie some h =
      let first : z.from.unit ≡ victim = All-head (λ (x : Copied). x.from.unit ≡ victim) z zs lie in
      let run : All Q (h.stale ++ map copy_of (z ∷ zs)) = subst (All Q) h.listed (all-last_run Q (t.copies rg) all) in
      record {
        stale = h.stale;
        listed = ap last_run same ∙ h.listed;
        dead = all-with (λ (x : Copy). Q x × (x.from.unit ≡ victim)) (IsDead at) (IsDead to) h.stale (λ x both d. change x both.0 both.1 d)
            (all-with Q (λ (x : Copy). IsBefore x (copy_of z)) (λ (x : Copy). Q x × (x.from.unit ≡ victim)) h.stale (λ x q b. (q, b.unit ∙ first)) (all-front Q h.stale (map copy_of (z ∷ zs)) run) (stale-before at t rg z zs h))
            h.dead;
      }

  pub pass-changed : (o : Option Pass) → ((pass : Pass) → o ≡ Some pass → (x : Copy) → Q x → x.from.unit ≡ pass.victim → IsDead at x → IsDead to x) → IfSome o (IsFollowed at t rg) → IfSome o (IsFollowed to u rg)
  pass-changed None change h = tt
  pass-changed (Some pass) change h = record {
    copies = h.copies;
    follows = λ some. follows-changed pass.victim pass.copies (change pass refl) (All-weaker (IsCopyOf pass) (λ (x : Copied). x.from.unit ≡ pass.victim) (λ x is. is.old_unit) pass.copies h.copies) some (h.follows some);
  }

-- where nothing needs to hold
any : (xs : List Copy) → All (λ (x : Copy). x ≡ x) xs
any xs i d low = refl

-- a pass without copies follows any trail
ended-of : (at : Behind Page) (t : Trail) (rg : ℕ) (o : Option Pass) → option_map_or (λ (pass : Pass). pass.copies) o [] ≡ [] → IfSome o (IsFollowed at t rg)
ended-of at t rg None e = tt
ended-of at t rg (Some pass) e = record { copies = subst (All (IsCopyOf pass)) (sym e) (All-nil (IsCopyOf pass)); follows = λ some. absurd (some e) }

pub pass-ended : (at : Behind Page) (t : Trail) (rg : ℕ) (passes : GroupPasses) → option_map_or (λ (pass : Pass). pass.copies) passes.pass [] ≡ [] → IsPassOf at t rg passes
pass-ended at t rg passes e = ended-of at t rg passes.pass e

-- ---- the entries

other-place : {X : Type 0} (table : ℕ → X) (place : ℕ) (value : X) (i : ℕ) → place ≢ i → with_at table place value i ≡ table i
other-place table place value i ne = ap (λ (b : Bool). cond b value (table i)) (ne_eqb i place (λ e. ne (sym e)))

copies-kept : (c : DriveConfig) (t : Trail) (e : Entry) (rg : ℕ) → IsTrue (leaves_pages e) → ended_by c e ≢ Some rg → (traced_by c t e).copies rg ≡ t.copies rg
unfolding traced_by
copies-kept c t (entries.Host h) rg leaves ne = refl
copies-kept c t (entries.Started s) rg leaves ne = refl
copies-kept c t (entries.Placed p) rg leaves ne = refl
copies-kept c t (entries.Copied x) rg leaves ne = absurd cc
copies-kept c t (entries.Moved m) rg leaves ne = absurd cc
copies-kept c t (entries.Erased e) rg leaves ne = absurd cc
copies-kept c t (entries.Retired r) rg leaves ne = other-place t.copies (group_of c r.unit) [] rg (λ e. ne (ap (λ (n : ℕ). Some n) e))
copies-kept c t (entries.Aside a) rg leaves ne = other-place t.copies (group_of c a.unit) [] rg (λ e. ne (ap (λ (n : ℕ). Some n) e))
copies-kept c t (entries.Shut s) rg leaves ne = refl
copies-kept c t (entries.Worn w) rg leaves ne = other-place t.copies w.rg [] rg (λ e. ne (ap (λ (n : ℕ). Some n) e))
copies-kept c t entries.Reopened rg leaves ne = refl

pub pass-renamed : (c : DriveConfig) (p : Point) (e : Entry) (rg : ℕ) (at : Behind Page) (passes : GroupPasses) → IsTrue (leaves_pages e) → ended_by c e ≢ Some rg → IsPassOf at p.trail rg passes → IsPassOf (renamed (renamed_by p.state e) at) (next c p e).trail rg passes
unfolding next
pass-renamed c p e rg at passes leaves ne h =
    pass-changed at (renamed (renamed_by p.state e) at) p.trail (traced_by c p.trail e) rg (λ (x : Copy). x ≡ x) (copies-kept c p.trail e rg leaves ne) (any (p.trail.copies rg)) passes.pass (λ pass is x q unit dead. dead-renamed (renamed_by p.state e) at x dead) h

pub pass-placed : (c : DriveConfig) (p : Point) (placed : Placed) (rg queue index : ℕ) (y : Page) (at : Behind Page) (passes : GroupPasses) → IfSome passes.pass (λ (pass : Pass). y.spot.unit ≢ pass.victim) → IsPassOf at p.trail rg passes → IsPassOf (pointed at queue index y) (next c p (entries.Placed placed)).trail rg passes
unfolding next traced_by
pass-placed c p placed rg queue index y at passes apart h =
    pass-changed at (pointed at queue index y) p.trail (traced_by c p.trail (entries.Placed placed)) rg (λ (x : Copy). x ≡ x) refl (any (p.trail.copies rg)) passes.pass
    (λ pass is x q unit dead. dead-pointed at queue index y x (λ same. if-some (λ (z : Pass). y.spot.unit ≢ z.victim) passes.pass pass is apart (same ∙ unit)) dead)
    h

pub pass-copied_elsewhere : (c : DriveConfig) (p : Point) (copy : Copied) (rg : ℕ) (at : Behind Page) (passes : GroupPasses) → group_of c copy.from.unit ≢ rg → IsPassOf at p.trail rg passes → IsPassOf at (next c p (entries.Copied copy)).trail rg passes
unfolding next traced_by
pass-copied_elsewhere c p copy rg at passes ne h =
    pass-changed at at p.trail (traced_by c p.trail (entries.Copied copy)) rg (λ (x : Copy). x ≡ x) (other-place p.trail.copies (group_of c copy.from.unit) _ rg ne) (any (p.trail.copies rg)) passes.pass (λ pass is x q unit dead. dead) h

pub pass-moved_elsewhere : (c : DriveConfig) (p : Point) (other rg : ℕ) (blocks : List BlockName) (at : Behind Page) (passes : GroupPasses) → IsOrderly c p → other ≢ rg → IsPassOf at p.trail rg passes
    → IsPassOf (moved (put_at (moved_by (pass_in p.trail other))) at) (next c p (entries.Moved (record { rg = other; blocks = blocks }))).trail rg passes
unfolding next traced_by
pass-moved_elsewhere c p other rg blocks at passes orderly ne h =
    pass-changed at (moved (put_at (moved_by (pass_in p.trail other))) at) p.trail (traced_by c p.trail (entries.Moved (record { rg = other; blocks = blocks }))) rg (IsOrderlyCopy c rg) (other-place p.trail.copies other [] rg ne) (orderly.copies rg) passes.pass
    (λ pass is x lies unit dead. dead-moved c at other rg (pass_in p.trail other) x ne (all-last_run (IsOrderlyCopy c other) (p.trail.copies other) (orderly.copies other)) lies dead)
    h

pub pass-erased_elsewhere : (c : DriveConfig) (p : Point) (unit rg : ℕ) (at : Behind Page) (passes : GroupPasses) → group_of c unit ≢ rg → IsPassOf at p.trail rg passes → IsPassOf at (next c p (entries.Erased (record { unit = unit }))).trail rg passes
unfolding next traced_by
pass-erased_elsewhere c p unit rg at passes ne h =
    pass-changed at at p.trail (traced_by c p.trail (entries.Erased (record { unit = unit }))) rg (λ (x : Copy). x ≡ x) (other-place p.trail.copies (group_of c unit) [] rg ne) (any (p.trail.copies rg)) passes.pass (λ pass is x q unit dead. dead) h
