-- In a history of the load a block that its queue had not written reads as the run found it.
use Rattle.std.proofs.Common.{◌≡◌, ℕ, ◌+◌, ◌<◌, ◌≤◌, Bool, true, false, cond, List, [], ◌∷◌, ◌++◌, length, Option, Some, None, refl, sym, ◌∙◌, ap, ap₂, subst, arith}
use Rattle.std.specs.Prelude.{IfSome, option_map}
use Rattle.std.specs.Option.{option_map_or, option_or}
use Rattle.fdp_base.specs.declared.command.Command.{Command}
use Rattle.fdp_base.specs.declared.command.Read.{Read}
use Rattle.fdp_base.specs.declared.command.Write.{Write}
use Rattle.fdp_base.specs.declared.config.DriveConfig.{DriveConfig}
use Rattle.fdp_base.specs.declared.entry.Entry.{Entry}
use Rattle.fdp_base.specs.declared.entry.Entry.TheVariants as entries
use Rattle.fdp_base.specs.declared.entry.Host.{Host}
use Rattle.fdp_base.specs.declared.entry.Reply.{Reply}
use Rattle.fdp_base.specs.EntryKinds.{host_of}
use Rattle.fdp_base.specs.Geometry.{IsBlockSize}
use Rattle.fdp_base.proofs.Entries.{by-host}
use Rattle.fdp_base.proofs.Sums.{count_from-same}
use Rattle.fdp_rules.specs.Answer.{read_block}
use Rattle.fdp_rules.specs.History.{Found, state_of}
use Rattle.fdp_rules.specs.LastWrite.{last_left, last_written}
use Rattle.fdp_rules.specs.Legal.{IsLegal, IsLegalAfter}
use Rattle.fdp_rules.specs.Step.{IsStep}
use Rattle.fdp_rules.proofs.LastWrites.{reads-last}
use Rattle.fdp_rules.proofs.Pushes.{legal-push}
use Rattle.fdp_make.specs.Load.{address, command_at, number_at, read_at}
use Rattle.fdp_make.specs.Served.{FindsWholeBlocks}
use Rattle.fdp_make.specs.Summary.{Beginning, agreeing_after, agreeing_in, agreeing_of, agrees, block_given, is_as_wanted, last_write, put_by, succeeds, untold}
use Rattle.fdp_make.proofs.Loads.{AreOfLoad, IsOfLoad, IsWithinOwn, address-within, all-push, by-made}
use Rattle.fdp_make.proofs.Readings.{cut-flat, read-data}
use Rattle.fdp_make.proofs.Repeats.{equal}
use Rattle.fdp_make.proofs.Unwritten.{left-length, stays}

-- what is wanted where the beginning is told and where it is not
same-test : (put : Write → List ℕ) (last : Option Write) (first given : List ℕ) → (last ≡ None → first ≡ given)
    → agrees (option_or (option_map put last) None) given ≡ agrees (option_or (option_map put last) (Some first)) given
same-test put (Some w) first given h = refl
same-test put None first given h = equal first given (h refl)

when-so : (b : Bool) (m n : ℕ) → (b ≡ true → m ≡ n) → cond b m 0 ≡ cond b n 0
when-so true m n h = h refl
when-so false m n h = refl

module _ (c : DriveConfig) (f : Found) (size : IsBlockSize c.block) (whole : FindsWholeBlocks c f) where
  -- the blocks as the run found them
  found_block : Beginning
  found_block nsid lba = Some (read_block c (state_of c f []) nsid lba)

  -- what a block reads as
  reads_as : (before : List Entry) (nsid lba : ℕ) → IsLegal true c f before → read_block c (state_of c f before) nsid lba ≡ last_left c nsid lba (read_block c (state_of c f []) nsid lba) before
  unfolding last_written state_of
  reads_as before nsid lba legal = reads-last true c f before legal nsid lba

  reads_whole : (before : List Entry) (nsid lba : ℕ) → IsLegal true c f before → AreOfLoad before → length (read_block c (state_of c f before) nsid lba) ≡ c.block
  reads_whole before nsid lba legal load = ap length (reads_as before nsid lba legal) ∙ left-length c size nsid lba before (read_block c (state_of c f []) nsid lba) load (whole nsid lba)

  module _ (before : List Entry) (legal : IsLegal true c f before) (load : AreOfLoad before) (queue number : ℕ) (reply : Reply) (moment : ℕ) (here : 1 ≤ queue) where
    completion : Command → Host
    completion command = record { queue = queue; number = number; command = command; reply = reply; moment = moment }

    -- one block of a read
    one-block : (at i : ℕ) → IsWithinOwn queue at 8 → i < 4 → IsStep true c f before (entries.Host (completion (read_at at))) → succeeds (completion (read_at at)) ≡ true
        → is_as_wanted c.block untold before (completion (read_at at)) (record { nsid = 1; slba = at; count = 4 }) i ≡ is_as_wanted c.block found_block before (completion (read_at at)) (record { nsid = 1; slba = at; count = 4 }) i
    unfolding completion found_block
    one-block at i own below step success =
        let lba : ℕ = at + i in
        let one : IsWithinOwn queue lba 1 = record { low = omega (arith, own.low); high = omega (arith, own.high, below) } in
        let given : List ℕ = block_given c.block reply.bytes i in
        let block : given ≡ read_block c (state_of c f before) 1 lba =
        ap (λ (xs : List ℕ). block_given c.block xs i) (read-data c f before queue number (record { nsid = 1; slba = at; count = 4 }) reply moment step success)
        ∙ cut-flat (read_block c (state_of c f before) 1) c.block (λ n. reads_whole before 1 n legal load) at 4 i below in
        same-test (put_by c.block lba) (last_write queue 1 lba before) (read_block c (state_of c f []) 1 lba) given
        (λ none. sym (block ∙ reads_as before 1 lba legal ∙ stays c queue lba one here before (read_block c (state_of c f []) 1 lba) load none))

    one-command : (k at : ℕ) → IsWithinOwn queue at 8 → IsStep true c f before (entries.Host (completion (command_at queue k at)))
        → agreeing_in c.block untold before (completion (command_at queue k at)) ≡ agreeing_in c.block found_block before (completion (command_at queue k at))
    unfolding completion
    one-command k at own =
        let P : Command → Type 0 = λ x. IsStep true c f before (entries.Host (completion x)) → agreeing_in c.block untold before (completion x) ≡ agreeing_in c.block found_block before (completion x) in
        by-made P queue k at
        (λ step.
        let r : Read = record { nsid = 1; slba = at; count = 4 } in
        when-so (succeeds (completion (read_at at))) _ _
        (λ success. count_from-same (is_as_wanted c.block untold before (completion (read_at at)) r) (is_as_wanted c.block found_block before (completion (read_at at)) r) 0 4
        (λ i low high. one-block at i own (omega (arith, high)) step success)))
        (λ step. refl)

  one-entry : (before : List Entry) (e : Entry) → IsLegal true c f before → AreOfLoad before → IsStep true c f before e → IfSome (host_of e) IsOfLoad
      → agreeing_of c.block untold before e ≡ agreeing_of c.block found_block before e
  unfolding completion
  one-entry before e legal load step of =
      let P : Entry → Type 0 = λ x. IsStep true c f before x → IfSome (host_of x) IsOfLoad → agreeing_of c.block untold before x ≡ agreeing_of c.block found_block before x in
      by-host P
      (λ h next own.
      let at : ℕ = address h.queue (number_at h.queue (own.1.0 + 1)) in
      let Q : Command → Type 0 = λ x. IsStep true c f before (entries.Host (completion before legal load h.queue h.number h.reply h.moment own.0.0 x))
      → agreeing_in c.block untold before (completion before legal load h.queue h.number h.reply h.moment own.0.0 x) ≡ agreeing_in c.block found_block before (completion before legal load h.queue h.number h.reply h.moment own.0.0 x) in
      subst Q (sym own.1.1) (one-command before legal load h.queue h.number h.reply h.moment own.0.0 own.1.0 at (address-within h.queue (number_at h.queue (own.1.0 + 1)))) next)
      (λ x none next own. ap (λ (o : Option Host). option_map_or (agreeing_in c.block untold before) o 0) none ∙ sym (ap (λ (o : Option Host). option_map_or (agreeing_in c.block found_block before) o 0) none))
      e step of

  all-entries : (before es : List Entry) → IsLegal true c f before → AreOfLoad before → IsLegalAfter true c f before es → AreOfLoad es
      → agreeing_after c.block untold before es ≡ agreeing_after c.block found_block before es
  unfolding IsLegalAfter agreeing_after
  all-entries before [] legal load after of = refl
  all-entries before (e ∷ es) legal load after of =
      ap₂ (λ m n. m + n) (one-entry before e legal load after.0 of.0)
      (all-entries (before ++ e ∷ []) es (legal-push true c f before e legal after.0) (all-push (λ x. IfSome (host_of x) IsOfLoad) before e load of.0) after.1 of.1)

  pub all-agree : (es : List Entry) → IsLegal true c f es → AreOfLoad es → agreeing_after c.block untold [] es ≡ agreeing_after c.block (λ nsid lba. Some (read_block c (state_of c f []) nsid lba)) [] es
  unfolding IsLegalAfter found_block
  all-agree es legal load = all-entries [] es tt tt legal load
