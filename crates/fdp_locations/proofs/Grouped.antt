-- What each entry leaves of the generation and the group that the spares of pages name.
use Rattle.std.proofs.Common.{◌≡◌, ◌⊎◌, ℕ, Bool, true, false, ◌&&◌, Option, Some, None, refl, sym, ◌∙◌, ap, subst, ⊎_elim, inl, inr}
use Rattle.std.specs.Prelude.{◌==◌, if◌then◌else◌, nat_lt, option_and_then, option_map, MatchBool}
use Rattle.std.specs.Option.{option_map_or}
use Rattle.fdp_base.specs.declared.command.Command.{Command}
use Rattle.fdp_base.specs.declared.command.Command.TheVariants as commands
use Rattle.fdp_base.specs.declared.command.SetFdp.{SetFdp}
use Rattle.fdp_base.specs.declared.config.DriveConfig.{DriveConfig}
use Rattle.fdp_base.specs.declared.entry.Entry.{Entry}
use Rattle.fdp_base.specs.declared.entry.Entry.TheVariants as entries
use Rattle.fdp_base.specs.declared.entry.Host.{Host}
use Rattle.fdp_base.specs.declared.entry.Reply.{Reply}
use Rattle.fdp_base.specs.declared.entry.Spot.{Spot}
use Rattle.fdp_base.specs.CommandKinds.{is_setting, nsid_of, is_write}
use Rattle.fdp_base.specs.EntryKinds.{host_of}
use Rattle.fdp_history.specs.OrderlyState.{IsOrderlyState}
use Rattle.fdp_history.proofs.Checks.{accepted-feature}
use Rattle.fdp_history.proofs.Spaces.{no-blocks, none-there}
use Rattle.fdp_locations.specs.Located.{NameTheirUnits}
use Rattle.fdp_pointers.specs.Contents.{PageContent, content_at, content_of_block, page_of_write, placed_page}
use Rattle.fdp_pointers.specs.Facts.{IsTableOf, Page, put_at}
use Rattle.fdp_pointers.specs.Pointers.{Behind, Pointer, Pointer.of_block, Pointer.of_flight, moved, pointed, renamed}
use Rattle.fdp_pointers.proofs.Renaming.{behind-renamed, moved-from, pointed-cases}
use Rattle.fdp_rules.specs.Change.{after, changed_by}
use Rattle.fdp_rules.specs.Effect.{effect_of}
use Rattle.fdp_rules.specs.Next.{next}
use Rattle.fdp_rules.specs.PlainState.{Block, Going, Namespace, PageName, PlainState}
use Rattle.fdp_rules.specs.Point.{Point}
use Rattle.fdp_rules.specs.Sites.{group_of, is_there}
use Rattle.fdp_rules.specs.Step.{Follows, IsPlainReply, IsWriteReply}
use Rattle.fdp_base.proofs.Entries.{by-host}
use Rattle.fdp_rules.proofs.LastWrites.{uncompleted-keeps}
use Rattle.fdp_rules.proofs.Effects.{by-effect, by-setting}

no : true ≡ false → ⊥
no e = cc

-- ---- the generation in force

effect-generation : (c : DriveConfig) (s : PlainState) (queue : ℕ) (command : Command) → is_setting command ≡ false → (effect_of c s queue command).generation ≡ s.generation
unfolding effect_of
effect-generation c s queue command =
    by-effect (λ x. is_setting x ≡ false → (effect_of c s queue x).generation ≡ s.generation)
    (record {
      write = λ w other. refl;
      zero = λ z other. refl;
      dealloc = λ d other. refl;
      delete = λ d other. refl;
      update = λ u other. refl;
      set_fdp = λ x other. absurd (no other);
      set_events = λ x other. refl;
      create = λ x other. refl;
      nothing = λ x none other. ap (λ (t : PlainState). t.generation) (none.state c s queue);
    })
    command

made-generation : (c : DriveConfig) (s : PlainState) (queue : ℕ) (command : Command) (made : Bool) → (is_setting command && made) ≡ false → (if made then effect_of c s queue command else s).generation ≡ s.generation
made-generation c s queue command false other = refl
made-generation c s queue command true other = effect-generation c s queue command (first (is_setting command) other) where
  first : (b : Bool) → (b && true) ≡ false → b ≡ false
  first true e = absurd (no e)
  first false e = refl

-- an entry puts another configuration in force
abbrev sets : Entry → Bool
sets e = option_map_or (λ (h : Host). is_setting h.command && h.reply.applied) (host_of e) false

-- one that does not leaves the generation
pub generation-next : (c : DriveConfig) (p : Point) (e : Entry) → sets e ≡ false → (next c p e).state.generation ≡ p.state.generation
unfolding next after changed_by
generation-next c p e other =
    by-host (λ x. sets x ≡ false → (next c p x).state.generation ≡ p.state.generation)
    (λ h unset. made-generation c p.state h.queue h.command h.reply.applied unset)
    (λ x none unset. (uncompleted-keeps c p.state x none).kept.generation)
    e other

-- ---- one that does comes while there is no namespace

-- no namespace is there
abbrev pub HasNone : PlainState → Type 0
HasNone s = (nsid : ℕ) → s.namespaces nsid ≡ None

accepted-none : (told : Bool) (c : DriveConfig) (p : Point) (x : SetFdp) (reply : Reply) (moment : ℕ) → IsOrderlyState c p.state → reply.applied ≡ true → IsPlainReply told c p (commands.SetFdp x) reply moment → HasNone p.state
accepted-none told c p x reply moment orderly made replied =
    ⊎_elim
    (λ refused. absurd (no (sym made ∙ ap (λ (r : Reply). r.applied) refused.2)))
    (λ accepted.
    ⊎_elim
    (λ success. none-there c p.state orderly (accepted-feature c p x.group x.enable x.index success.0).1)
    (λ failed. none-there c p.state orderly (accepted-feature c p x.group x.enable x.index failed.0).1)
    accepted)
    replied

host-none : (told : Bool) (c : DriveConfig) (p : Point) (h : Host) → IsOrderlyState c p.state → Follows told c p (entries.Host h) → (is_setting h.command && h.reply.applied) ≡ true → HasNone p.state
unfolding Follows
host-none told c p h orderly follows sets =
    by-setting
    (λ x. MatchBool (is_write x) (IsWriteReply told c p h.queue h.number x h.reply h.moment) (IsPlainReply told c p x h.reply h.moment) → (is_setting x && h.reply.applied) ≡ true → HasNone p.state)
    (λ x replied made. accepted-none told c p x h.reply h.moment orderly made replied)
    (λ x other replied made. absurd (no (sym made ∙ ap (λ (b : Bool). b && h.reply.applied) other)))
    h.command follows.replied sets

-- the generation stays, or no namespace is there
host-stays-or-none : (told : Bool) (c : DriveConfig) (p : Point) (h : Host) → IsOrderlyState c p.state → Follows told c p (entries.Host h) → ((next c p (entries.Host h)).state.generation ≡ p.state.generation) ⊎ HasNone p.state
host-stays-or-none told c p h orderly follows = by (is_setting h.command && h.reply.applied) refl where
  by : (b : Bool) → (is_setting h.command && h.reply.applied) ≡ b → ((next c p (entries.Host h)).state.generation ≡ p.state.generation) ⊎ HasNone p.state
  by true sets = inr (host-none told c p h orderly follows sets)
  by false other = inl (generation-next c p (entries.Host h) other)

stays-or-none : (told : Bool) (c : DriveConfig) (p : Point) (e : Entry) → IsOrderlyState c p.state → Follows told c p e → ((next c p e).state.generation ≡ p.state.generation) ⊎ HasNone p.state
stays-or-none told c p e orderly follows =
    by-host (λ x. Follows told c p x → ((next c p x).state.generation ≡ p.state.generation) ⊎ HasNone p.state)
    (λ h step. host-stays-or-none told c p h orderly step)
    (λ x none step. inl (generation-next c p x (ap (λ (o : Option Host). option_map_or (λ (h : Host). is_setting h.command && h.reply.applied) o false) none)))
    e follows

-- where no namespace is there, nothing stands behind a pointer
pub empty-content : (c : DriveConfig) (s : PlainState) (p : Pointer) → IsOrderlyState c s → HasNone s → content_at c s p ≡ None
empty-content c s (of_block nsid lba) orderly none =
    (elim (s.blocks nsid lba) as (λ (o : Option Block). s.blocks nsid lba ≡ o → option_map content_of_block o ≡ None) [
      | None ↦ λ e. refl
      | Some b ↦ λ e. absurd (no-blocks c s orderly nsid lba b e (none nsid))
    ]) refl
empty-content c s (of_flight queue index) orderly none = of (s.going queue) where
  of : (o : Option Going) → option_and_then (placed_page c s index) o ≡ None
  of None = refl
  of (Some g) =
      let gone : is_there s g ≡ false = ap (λ (o : Option Namespace). option_map_or (λ x. x.birth == g.birth) o false) (none (nsid_of g.command)) in
      ap (λ (b : Bool). if b && nat_lt index g.placed then Some (page_of_write c g index) else None) gone

unled : (site : PageName → Option Spot) (o : Option PageContent) (a : Option Page) (y : Page) → o ≡ None → option_map (λ (x : PageContent). site x.name) o ≡ option_map (λ (z : Page). Some z.spot) a → a ≡ Some y → ⊥
unled site None None y none same is = cc
unled site None (Some z) y none same is = cc
unled site (Some x) a y none same is = cc

-- ---- what spares name

pub units-same : (c : DriveConfig) (old new : ℕ) (at : Behind Page) → new ≡ old → NameTheirUnits c old at → NameTheirUnits c new at
units-same c old new at same h = subst (λ (g : ℕ). NameTheirUnits c g at) (sym same) h

-- after an entry that may follow the spares of the pages that are pointed to name the generation in force still
pub units-next : (told : Bool) (c : DriveConfig) (p : Point) (e : Entry) (pages : ℕ → ℕ) (at : Behind Page) → IsOrderlyState c p.state → Follows told c p e → IsTableOf c p pages at → NameTheirUnits c p.state.generation at → NameTheirUnits c (next c p e).state.generation at
units-next told c p e pages at orderly follows table h =
    ⊎_elim
    (λ (same : (next c p e).state.generation ≡ p.state.generation). units-same c p.state.generation (next c p e).state.generation at same h)
    (λ (none : HasNone p.state). λ q y there. absurd (unled p.trail.site (content_at c p.state q) (at q) y (empty-content c p.state q orderly none) (table.follows q) there))
    (stays-or-none told c p e orderly follows)

pub units-renamed : (c : DriveConfig) (generation : ℕ) (r : Pointer → Option Pointer) (at : Behind Page) → NameTheirUnits c generation at → NameTheirUnits c generation (renamed r at)
units-renamed c generation r at h q y there = let was = behind-renamed r at q y there in h was.0 y was.2

-- each page that is pointed to is put elsewhere in its group
abbrev pub StayInGroups : DriveConfig → (Spot → Spot) → Behind Page → Type 0
StayInGroups c f at = (q : Pointer) (y : Page) → at q ≡ Some y → group_of c (f y.spot).unit ≡ group_of c y.spot.unit

pub units-moved : (c : DriveConfig) (generation : ℕ) (f : Spot → Spot) (at : Behind Page) → StayInGroups c f at → NameTheirUnits c generation at → NameTheirUnits c generation (moved (put_at f) at)
units-moved c generation f at within h q y there =
    let was = moved-from f (at q) y there in
    let names = h q was.0 was.1 in (
      ap (λ (z : Page). z.spare.generation) was.2 ∙ names.0,
      ap (λ (z : Page). z.spare.rg) was.2 ∙ names.1 ∙ sym (within q was.0 was.1) ∙ sym (ap (λ (z : Page). group_of c z.spot.unit) was.2),
    )

-- one page more, which names them
pub units-pointed : (c : DriveConfig) (generation : ℕ) (at : Behind Page) (queue index : ℕ) (y : Page) → (y.spare.generation ≡ generation) × (y.spare.rg ≡ group_of c y.spot.unit) → NameTheirUnits c generation at → NameTheirUnits c generation (pointed at queue index y)
units-pointed c generation at queue index y own h q z there =
    ⊎_elim
    (λ (here : (q ≡ of_flight queue index) × (pointed at queue index y q ≡ Some y)).
    let page : Some y ≡ Some z = sym here.1 ∙ there in
    let one : y ≡ z = cc in
    subst (λ (x : Page). (x.spare.generation ≡ generation) × (x.spare.rg ≡ group_of c x.spot.unit)) one own)
    (λ (other : pointed at queue index y q ≡ at q). h q z (sym other ∙ there))
    (pointed-cases at queue index y q)
