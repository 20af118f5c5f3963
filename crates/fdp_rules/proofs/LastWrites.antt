-- What changes a block, and what a read of it gives.
use Rattle.std.proofs.Common.{◌≡◌, ℕ, Bool, true, false, ◌&&◌, cond, List, [], ◌∷◌, ◌++◌, refl, sym, ◌∙◌, ap, subst, ⊎_elim}
use Rattle.std.specs.Prelude.{MatchBool, Option, Some, None, IsTrue, IsFalse, unwrap_or, ◌==◌, if◌then◌else◌, option_and_then, option_map}
use Rattle.std.specs.Option.{option_map_or}
use mathlib.Core.List.{append-nil}
use mathlib.Core.Bool.{true≢false}
use Rattle.std.proofs.Common.{append_assoc}
use Rattle.fdp_base.specs.declared.command.Command.{Command}
use Rattle.fdp_base.specs.declared.command.Command.TheVariants as commands
use Rattle.fdp_base.specs.declared.config.DriveConfig.{DriveConfig}
use Rattle.fdp_base.specs.declared.entry.Entry.{Entry}
use Rattle.fdp_base.specs.declared.entry.Entry.TheVariants as entries
use Rattle.fdp_base.specs.declared.entry.Host.{Host}
use Rattle.fdp_base.specs.declared.entry.Reply.{Reply}
use Rattle.fdp_base.proofs.Entries.{by-host}
use Rattle.fdp_rules.specs.Answer.{read_block}
use Rattle.fdp_rules.specs.Applied.{KeepsData, is_applied}
use Rattle.fdp_rules.specs.Change.{after, changed_by}
use Rattle.fdp_base.specs.CommandKinds.{is_write}
use Rattle.fdp_base.specs.EntryKinds.{host_of}
use Rattle.fdp_rules.specs.Effect.{block_of_write, effect_of, is_in_ranges}
use Rattle.fdp_rules.specs.History.{Found, point_of, state_of}
use Rattle.fdp_rules.specs.LastWrite.{last_left, last_written, left_by, left_by_entry}
use Rattle.fdp_rules.specs.Legal.{IsLegal, IsLegalAfter}
use Rattle.fdp_rules.specs.LogPages.{zeros}
use Rattle.fdp_base.specs.Numbers.{is_among}
use Rattle.fdp_rules.specs.PlainState.{Block, Going, PlainState}
use Rattle.fdp_rules.specs.Step.{Follows, IsPlainReply, IsStep, IsWriteReply}
use Rattle.fdp_rules.proofs.Effects.{by-effect}
use Rattle.fdp_rules.proofs.Pushes.{state_of-push}

-- ---- only a command whose change is made changes data

-- what an entry that is no completion leaves as it is
pub record KeepsAnswers (old new : PlainState) : Type 0 where
  pub kept : KeepsData old new
  pub media : new.media ≡ old.media

pub uncompleted-keeps : (c : DriveConfig) (s : PlainState) (e : Entry) → host_of e ≡ None → KeepsAnswers s (after c s e)
unfolding after changed_by
uncompleted-keeps c s (entries.Host h) none = absurd cc
uncompleted-keeps c s (entries.Started started) none = record { kept = record { blocks = refl; namespaces = refl; reports = refl; enabled = refl; index = refl; generation = refl }; media = refl }
uncompleted-keeps c s (entries.Placed p) none = record { kept = record { blocks = refl; namespaces = refl; reports = refl; enabled = refl; index = refl; generation = refl }; media = refl }
uncompleted-keeps c s (entries.Copied copied) none = record { kept = record { blocks = refl; namespaces = refl; reports = refl; enabled = refl; index = refl; generation = refl }; media = refl }
uncompleted-keeps c s (entries.Moved m) none = record { kept = record { blocks = refl; namespaces = refl; reports = refl; enabled = refl; index = refl; generation = refl }; media = refl }
uncompleted-keeps c s (entries.Erased x) none = record { kept = record { blocks = refl; namespaces = refl; reports = refl; enabled = refl; index = refl; generation = refl }; media = refl }
uncompleted-keeps c s (entries.Retired r) none = record { kept = record { blocks = refl; namespaces = refl; reports = refl; enabled = refl; index = refl; generation = refl }; media = refl }
uncompleted-keeps c s (entries.Aside a) none = record { kept = record { blocks = refl; namespaces = refl; reports = refl; enabled = refl; index = refl; generation = refl }; media = refl }
uncompleted-keeps c s (entries.Shut shut) none = record { kept = record { blocks = refl; namespaces = refl; reports = refl; enabled = refl; index = refl; generation = refl }; media = refl }
uncompleted-keeps c s (entries.Worn w) none = record { kept = record { blocks = refl; namespaces = refl; reports = refl; enabled = refl; index = refl; generation = refl }; media = refl }
uncompleted-keeps c s entries.Reopened none = record { kept = record { blocks = refl; namespaces = refl; reports = refl; enabled = refl; index = refl; generation = refl }; media = refl }

not-applied : (c : DriveConfig) (s done : PlainState) (b : Bool) (P : PlainState → Type 0) → b ≡ false → P s → P (cond b done s)
not-applied c s done b P none p = subst (λ (a : Bool). P (cond a done s)) (sym none) p

pub keeps_data : (c : DriveConfig) (s : PlainState) (e : Entry) → IsFalse (is_applied e) → KeepsData s (after c s e)
unfolding after changed_by
keeps_data c s e unmade =
    let P : Entry → Type 0 = λ x. IsFalse (is_applied x) → KeepsData s (after c s x) in
    by-host P
    (λ h none.
    let done : PlainState = effect_of c s h.queue h.command in
    record {
      blocks = not-applied c s done h.reply.applied (λ (x : PlainState). x.blocks ≡ s.blocks) none refl;
      namespaces = not-applied c s done h.reply.applied (λ (x : PlainState). x.namespaces ≡ s.namespaces) none refl;
      reports = not-applied c s done h.reply.applied (λ (x : PlainState). x.reports ≡ s.reports) none refl;
      enabled = not-applied c s done h.reply.applied (λ (x : PlainState). x.enabled ≡ s.enabled) none refl;
      index = not-applied c s done h.reply.applied (λ (x : PlainState). x.index ≡ s.index) none refl;
      generation = not-applied c s done h.reply.applied (λ (x : PlainState). x.generation ≡ s.generation) none refl;
    })
    (λ x other none. (uncompleted-keeps c s x other).kept)
    e unmade

-- an entry that is no completion makes no change of a command
pub not-completed : (e : Entry) → host_of e ≡ None → IsFalse (is_applied e)
not-completed e none = ap (λ (o : Option Host). option_map_or (λ (h : Host). h.reply.applied) o false) none

-- ---- what a command leaves in a block

-- a test decides what is shown, and what was left
put : (c : DriveConfig) (b : Bool) (new : Block) (old : Option Block) → option_map_or (λ (x : Block). x.bytes) (cond b (Some new) old) (zeros c.block) ≡ unwrap_or (cond b (Some new.bytes) None) (option_map_or (λ (x : Block). x.bytes) old (zeros c.block))
put c true new old = refl
put c false new old = refl

taken : (c : DriveConfig) (b : Bool) (old : Option Block) → option_map_or (λ (x : Block). x.bytes) (cond b None old) (zeros c.block) ≡ unwrap_or (cond b (Some (zeros c.block)) None) (option_map_or (λ (x : Block). x.bytes) old (zeros c.block))
taken c true old = refl
taken c false old = refl

and-true : (b : Bool) → b && true ≡ b
and-true true = refl
and-true false = refl

-- a write, where it is going, and every other command
HasWrite : PlainState → ℕ → Command → Type 0
HasWrite s queue command = IsTrue (is_write command) → (g : Going) × (s.going queue ≡ Some g)

left-by : (c : DriveConfig) (s : PlainState) (queue : ℕ) (command : Command) (n lba : ℕ) → HasWrite s queue command → read_block c (effect_of c s queue command) n lba ≡ unwrap_or (left_by c n lba command) (read_block c s n lba)
unfolding effect_of HasWrite
left-by c s queue command n lba going =
    let P : Command → Type 0 = λ x. HasWrite s queue x → read_block c (effect_of c s queue x) n lba ≡ unwrap_or (left_by c n lba x) (read_block c s n lba) in
    by-effect P
    (record {
      write = λ w has.
          let g = has refl in
          let Q : Option Going → Type 0 = λ o. option_map_or (λ (x : Block). x.bytes) (if n == w.nsid && is_among w.slba w.count lba then option_map (block_of_write c w.slba w.payload lba) o else s.blocks n lba) (zeros c.block)
          ≡ unwrap_or (left_by c n lba (commands.Write w)) (read_block c s n lba) in
          subst Q (sym g.1) (put c (n == w.nsid && is_among w.slba w.count lba) (block_of_write c w.slba w.payload lba g.0) (s.blocks n lba));
      zero = λ z has. taken c (n == z.nsid && is_among z.slba z.count lba) (s.blocks n lba);
      dealloc = λ d has. taken c (n == d.nsid && (d.deallocate && is_in_ranges d.ranges lba)) (s.blocks n lba);
      delete = λ d has.
          taken c (n == d.nsid && true) (s.blocks n lba) ∙ ap (λ (b : Bool). unwrap_or (cond b (Some (zeros c.block)) None) (read_block c s n lba)) (and-true (n == d.nsid));
      update = λ u has. refl;
      set_fdp = λ x has. refl;
      set_events = λ x has. refl;
      create = λ x has. refl;
      nothing = λ x none has.
          ap (λ (t : PlainState). read_block c t n lba) (none.state c s queue) ∙ sym (ap (λ (o : Option (List ℕ)). unwrap_or o (read_block c s n lba)) (none.blocks c n lba));
    })
    command going

-- ---- what an entry leaves in a block

-- a write whose change is made was going
going-write : (told : Bool) (c : DriveConfig) (f : Found) (before : List Entry) (queue number : ℕ) (command : Command) (reply : Reply) (moment : ℕ)
    → IsStep told c f before (entries.Host (record { queue = queue; number = number; command = command; reply = reply; moment = moment })) → IsTrue reply.applied → HasWrite (state_of c f before) queue command
unfolding Follows point_of HasWrite
going-write told c f before queue number command reply moment step applied write =
    let replied = subst (λ (b : Bool). MatchBool b (IsWriteReply told c (point_of c f before) queue number command reply moment) (IsPlainReply told c (point_of c f before) command reply moment)) write step.replied in
    ⊎_elim
    (λ r. (r.0, r.1.going))
    (λ r. absurd (true≢false (sym applied ∙ ap (λ (x : Reply). x.applied) r.1.2)))
    replied

host-left : (c : DriveConfig) (s : PlainState) (queue : ℕ) (command : Command) (b : Bool) (n lba : ℕ) → (IsTrue b → HasWrite s queue command)
    → read_block c (cond b (effect_of c s queue command) s) n lba ≡ unwrap_or (cond b (left_by c n lba command) None) (read_block c s n lba)
host-left c s queue command true n lba going = left-by c s queue command n lba (going refl)
host-left c s queue command false n lba going = refl

entry-left : (told : Bool) (c : DriveConfig) (f : Found) (before : List Entry) (e : Entry) (n lba : ℕ) → IsStep told c f before e
    → read_block c (after c (state_of c f before) e) n lba ≡ unwrap_or (left_by_entry c n lba e) (read_block c (state_of c f before) n lba)
unfolding after changed_by
entry-left told c f before e n lba step =
    let s : PlainState = state_of c f before in
    let P : Entry → Type 0 = λ x. IsStep told c f before x → read_block c (after c s x) n lba ≡ unwrap_or (left_by_entry c n lba x) (read_block c s n lba) in
    by-host P
    (λ h next. host-left c s h.queue h.command h.reply.applied n lba (λ applied. going-write told c f before h.queue h.number h.command h.reply h.moment next applied))
    (λ x none next.
    ap (λ (blocks : ℕ → ℕ → Option Block). option_map_or (λ (b : Block). b.bytes) (blocks n lba) (zeros c.block)) (keeps_data c s x (not-completed x none)).blocks
    ∙ sym (ap (λ (o : Option Host). unwrap_or (option_and_then (λ (h : Host). if h.reply.applied then left_by c n lba h.command else None) o) (read_block c s n lba)) none))
    e step

read-after : (told : Bool) (c : DriveConfig) (f : Found) (before es : List Entry) (n lba : ℕ) → IsLegalAfter told c f before es
    → read_block c (state_of c f (before ++ es)) n lba ≡ last_left c n lba (read_block c (state_of c f before) n lba) es
unfolding IsLegalAfter
read-after told c f before [] n lba legal = ap (λ (xs : List Entry). read_block c (state_of c f xs) n lba) (append-nil before)
read-after told c f before (e ∷ es) n lba legal =
    let one : read_block c (state_of c f (before ++ e ∷ [])) n lba ≡ unwrap_or (left_by_entry c n lba e) (read_block c (state_of c f before) n lba) =
    ap (λ (s : PlainState). read_block c s n lba) (state_of-push c f before e) ∙ entry-left told c f before e n lba legal.0 in
    ap (λ (xs : List Entry). read_block c (state_of c f xs) n lba) (sym (append_assoc before (e ∷ []) es))
    ∙ read-after told c f (before ++ e ∷ []) es n lba legal.1
    ∙ ap (λ (bytes : List ℕ). last_left c n lba bytes es) one

-- a read gives what was last written
pub reads-last : (told : Bool) (c : DriveConfig) (f : Found) (es : List Entry) → IsLegal told c f es → (nsid lba : ℕ) → read_block c (state_of c f es) nsid lba ≡ last_written c f es nsid lba
unfolding last_written state_of
reads-last told c f es legal nsid lba = read-after told c f [] es nsid lba legal
