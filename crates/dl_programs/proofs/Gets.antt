-- Where a program gets a message, what follows is ready afterwards.
use Rattle.std.proofs.Common.{◌≡◌, ℕ, zero, suc, ◌<◌, ◌≤◌, ℤ, pos, Bool, true, false, ◌==◌, if◌then◌else◌, Some, None, List, [], ◌∷◌, ◌++◌, length, slice_get, unwrap_or, refl, ap, sym, subst, ◌∙◌, eq-eqb, arith}
use Rattle.std.specs.Prelude.{is_some}
use Rattle.std.specs.List.{AllByRecursion as Each}
use Rattle.dl_term.specs.declared.syntax.Lab.TheVariants.{At}
use Rattle.dl_term.specs.declared.syntax.Part.{Part}
use Rattle.dl_term.specs.declared.syntax.Part.TheVariants.{From, Live, Arg}
use Rattle.dl_term.specs.declared.syntax.Term.{Term, Num, Var, Msg}
use Rattle.dl_term.specs.declared.syntax.Formula.{Formula}
use Rattle.dl_term.specs.State.{State, Message, soup_at, tag_of as tag_of_message, part_of}
use Rattle.dl_term.specs.Names.{Names, Stored, with_number}
use Rattle.dl_term.specs.Meaning.{value, holds, part_in}
use Rattle.dl_term.specs.Measures.{has_variable, has_message}
use Rattle.dl_model.specs.declared.protocol.Tag.{Tag}
use Rattle.dl_model.specs.declared.protocol.Protocol.{Protocol}
use Rattle.dl_model.specs.declared.program.Proc.{Proc}
use Rattle.dl_model.specs.declared.file.Decls.{Decls}
use Rattle.dl_model.specs.Block.{Block}
use Rattle.dl_model.specs.Sorts.{has}
use Rattle.dl_model.specs.Lookup.{Parameter, arg_names, arg_sorts, tag_at, receive_of, no_tag, proc_at}
use Rattle.dl_model.specs.Words.{me_word, with_numbers}
use Rattle.dl_model.specs.Machine.{got_names}
use Rattle.dl_model.specs.Steps.{Receiving, IsReceivable, after_step, message_in}
use Rattle.dl_model.specs.Spoken.{bound_names}
use Rattle.dl_model.specs.Scopes.{file_label}
use Rattle.dl_model.specs.Formed.{AreTargets, proc_variables, BlockIsFormed, IsFormed}
use Rattle.dl_model.specs.Sequents.{Fits, StandsForMessage, message_label, IsValid}
use Rattle.dl_model.proofs.Small.{some-same, or-both, or-true-left, or-true-right, eqb-other}
use Rattle.dl_wp.specs.Conditions.{TermFits, AreThere}
use Rattle.dl_wp.specs.Steps.{args_of_message}
use Rattle.dl_wp.proofs.Model.{Covers, spoken-is, spoken-some, tag-fits, length-map}
use Rattle.dl_inv.specs.Steps.{receive_hypotheses}
use Rattle.dl_inv.proofs.Lists.{true-false, not-true, each-append, each-at}
use Rattle.dl_inv.proofs.Bound.{bound-changed}
use Rattle.dl_sound.specs.Obligations.{Test, ready, StandsAt}
use Rattle.dl_sound.proofs.StepNames.{sorts-length}
use Rattle.dl_sound.proofs.Effects.{move-effect}
use Rattle.dl_subst.specs.Substitution.{for_variables}
use Rattle.dl_term.specs.declared.syntax.Lab.TheVariants.{Own}
use Rattle.dl_triples.specs.Points.{pre_of}
use Rattle.dl_triples.specs.Obligations.{put, vars_of, facts_at, known_with, taking, terms_of_message, got_sequent}
use Rattle.dl_programs.proofs.Known.{file-same, file-about}
use Rattle.dl_programs.proofs.Put.{AllSpared, put-numbers, put-same}
use Rattle.dl_programs.proofs.FileBound.{own-free, receive-guard-free}
use Rattle.dl_programs.proofs.Ready.{IsNote, bound-apart, local-there, known-pre}
use Rattle.dl_programs.proofs.Standing.{Follows, facts-hold, vars-fit}
use Rattle.dl_programs.proofs.Places.{next-ready}
use Rattle.dl_programs.proofs.Calls.{foreign-apart}
use Rattle.dl_programs.proofs.Guards.{receive-guard-me}
use Rattle.dl_programs.proofs.About.{about-put}
use Rattle.dl_programs.proofs.ReceiveTerms.{received-is-there, received-is, receive-said, after-receive}
use Rattle.dl_inv.proofs.Clear.{IsOver}

-- ---- the terms of a message

-- the term for the argument at a place
arg-term : (m j : ℕ) (t : Term) → slice_get (args_of_message m) j ≡ Some t → Msg m (Arg j) ≡ t
arg-term m zero t e = some-same _ _ e
arg-term m (suc zero) t e = some-same _ _ e
arg-term m (suc (suc zero)) t e = some-same _ _ e
arg-term m (suc (suc (suc zero))) t e = some-same _ _ e
arg-term m (suc (suc (suc (suc zero)))) t e = some-same _ _ e
arg-term m (suc (suc (suc (suc (suc zero))))) t e = some-same _ _ e
arg-term m (suc (suc (suc (suc (suc (suc zero)))))) t e = some-same _ _ e
arg-term m (suc (suc (suc (suc (suc (suc (suc zero))))))) t e = some-same _ _ e
arg-term m (suc (suc (suc (suc (suc (suc (suc (suc j)))))))) t e = cc

covers : (n : Names) (state : State) (xs : List ℕ) (terms : List Term) (values : List ℤ) → length xs ≤ length terms → length xs ≡ length values
    → ((j : ℕ) (t : Term) → slice_get terms j ≡ Some t → value t n state ≡ unwrap_or (slice_get values j) (pos 0)) → Covers n state xs terms values
covers n state [] terms values few same h = tt
covers n state (x ∷ xs) [] values few same h = absurd (omega (few, arith))
covers n state (x ∷ xs) (t ∷ ts) [] few same h = absurd (omega (same, arith))
covers n state (x ∷ xs) (t ∷ ts) (v ∷ vs) few same h = (h 0 t refl, covers n state xs ts vs (omega (few, arith)) (omega (same, arith)) (λ j u e. h (suc j) u e))

module _ (d : Decls) (formed : IsFormed d) (number : ℕ) (there : slice_get d.procs number ≡ Some (proc_at d.procs number)) where
  abbrev proc : Proc
  proc = proc_at d.procs number

  abbrev variables : List ℕ
  variables = proc_variables proc

  module _ (label tag : ℕ) (spoken : is_some (file_label d.inst (At label)) ≡ true) (note : Formula) (noted : IsNote d number (proc_at d.procs number) note) (rest : Block) (after : Formula) (test : Test)
      (formed_rest : BlockIsFormed d number (proc_at d.procs number) rest) (known_after : IsNote d number (proc_at d.procs number) after) (ends : (m : Names) (s : State) → holds after m s ≡ true → test m s ≡ true)
      (j : ℕ) (new : has (proc_variables (proc_at d.procs number)) j ≡ false) (unbound_guard : has (bound_names (receive_of (tag_at d.inst label tag)).guard) j ≡ false) (unbound_next : has (bound_names (pre_of rest after)) j ≡ false)
      (node : ℕ) (names : Names) (state : State) (stands : StandsAt d number node names state note) (id : ℕ) (tagged : (message_in state label id).tag ≡ tag) (receivable : IsReceivable d.inst state node label id) where
    abbrev n : Names
    n = record { own = 0; number = names.number; message = λ m. if m == j then Some (Stored label id) else None }

    abbrev message : Message
    message = message_in state label id

    abbrev later : State
    later = after_step d.inst state node (Receiving label id)

    abbrev next : Formula
    next = pre_of rest after

    known-next : IsNote d number proc next
    known-next = known-pre d number proc rest after formed_rest known_after

    protocol : (p : Protocol) × (file_label d.inst (At label) ≡ Some p)
    protocol = spoken-some (file_label d.inst (At label)) spoken

    named-message : n.message j ≡ Some (Stored label id)
    named-message = ap (λ b. if b then Some (Stored label id) else None) (eq-eqb j j refl)

    is-there : id < length (soup_at state label)
    is-there = received-is-there d state node label id receivable

    are-there : AreThere n state
    are-there m l i e = by_name (m == j) e
      where
        by_name : (b : Bool) → (if b then Some (Stored label id) else None) ≡ Some (Stored l i) → i < length (soup_at state l)
        by_name true q =
            let same : label ≡ l = cc in
            let one : id ≡ i = cc in
            subst (λ a. i < length (soup_at state a)) same (subst (λ a. a < length (soup_at state label)) one is-there)
        by_name false q = cc

    abbrev ns : List ℕ
    ns = j ∷ variables

    me-over : IsOver ns (Var me_word)
    me-over p m a b = a me_word (or-true-right (me_word == j) (has variables me_word) (or-true-left (me_word == me_word) (has (arg_names proc.params ++ proc.locals) me_word) refl))

    j-there : has ns j ≡ true
    j-there = or-true-left (j == j) (has variables j) (eq-eqb j j refl)

    lacks-both : (f : Formula) (y : ℕ) → has (bound_names f) j ≡ false → has variables y ≡ false → has (bound_names f) y ≡ true → has ns y ≡ false
    lacks-both f y no_j no_variable bound = or-both (y == j) (has variables y) (eqb-other y j (λ e. true-false (has (bound_names f) y) bound (ap (has (bound_names f)) e ∙ no_j))) no_variable

    guard-lacks : (y : ℕ) → has (bound_names (receive_of (tag_at d.inst label message.tag)).guard) y ≡ true → has ns y ≡ false
    guard-lacks y bound =
        lacks-both (receive_of (tag_at d.inst label message.tag)).guard y (ap (λ t. has (bound_names (receive_of (tag_at d.inst label t)).guard) j) tagged ∙ unbound_guard)
        (foreign-apart d formed number there (receive_of (tag_at d.inst label message.tag)).guard y (receive-guard-me d formed label message.tag) (λ x mine. receive-guard-free d formed x (own-free d formed number proc x there mine) label message.tag) bound) bound

    follows : Follows d formed number n names
    follows = record { own = refl; same = λ x mine. refl }

    note-there : holds note n state ≡ true
    note-there = file-same d.inst variables note n names state noted (λ x mine. refl) ∙ stands.true_there

    -- the label is below 255
    label-is : message_label 0 label ≡ label
    label-is = ap (λ b. if b then 0 else label) (eqb-other label 255 (λ e.
        let s = spoken-is d.inst None n (At label) protocol.0 tt protocol.1 in
        let less = s.there in
        let few = formed.small.labels in
        omega (e, less, few, arith)))

    fitting : Fits (known_with d proc label tag j) 0 state n
    fitting = record {
      own_label = refl;
      variables = vars-fit d formed number node names n stands.named follows;
      messages = (subst (λ l. StandsForMessage state n j l tag) (sym label-is) (id, named-message, (is-there, ap tag_of_message (received-is d state node label id receivable) ∙ tagged)), tt);
    }

    -- ---- the message after it is received

    stays : (part : Part) → (part ≡ Live → ⊥) → value (Msg j part) n later ≡ part_of id (Some message) part
    stays part other =
        ap (λ o. part_in later o part) named-message
        ∙ sym ((move-effect d.inst state node 0 false (Receiving label id)).stays id part is-there other)
        ∙ ap (λ o. part_of id o part) (received-is d state node label id receivable)

    args-count : length (arg_names (tag_at d.inst label tag).args) ≡ length message.args
    args-count =
        length-map (λ (p : Parameter). p.0) (tag_at d.inst label tag).args ∙ sym (length-map (λ (p : Parameter). p.1) (tag_at d.inst label tag).args)
        ∙ ap (λ t. length (arg_sorts (tag_at d.inst label t).args)) (sym tagged)
        ∙ sorts-length (arg_sorts (tag_at d.inst label message.tag).args) message.args receivable.arguments

    few-args : length (tag_at d.inst label tag).args ≤ 8
    few-args =
        let s = spoken-is d.inst None n (At label) protocol.0 tt protocol.1 in
        subst (λ (t : Tag). length t.args ≤ 8) (ap (λ (p : Protocol). unwrap_or (slice_get p.tags tag) no_tag) (sym s.at)) (tag-fits d.inst label protocol.0 tag formed.inst s).few

    -- the terms of the message have its values
    message-covers : (args : List ℕ) → length args ≡ length (tag_at d.inst label tag).args → Covers n later args (args_of_message j) message.args
    message-covers args count =
        covers n later args (args_of_message j) message.args (let few = few-args in omega (count, few, arith))
        (count ∙ sym (length-map (λ (p : Parameter). p.0) (tag_at d.inst label tag).args) ∙ args-count)
        (λ k t e. subst (λ (u : Term). value u n later ≡ unwrap_or (slice_get message.args k) (pos 0)) (arg-term j k t e) (stays (Arg k) (λ q. cc)))

    message-fits : (bound : ℕ → Bool) → Each (TermFits (file_label d.inst) bound) (terms_of_message j)
    message-fits bound = (refl, (refl, (refl, (refl, (refl, (refl, (refl, (refl, (refl, tt)))))))))

    message-variables : (y : ℕ) → Each (λ t. has_variable t y ≡ false) (terms_of_message j)
    message-variables y = (refl, (refl, (refl, (refl, (refl, (refl, (refl, (refl, (refl, tt)))))))))

    message-messages : (y : ℕ) → (j == y) ≡ false → Each (λ t. has_message t y ≡ false) (terms_of_message j)
    message-messages y h = (h, (h, (h, (h, (h, (h, (h, (h, (h, tt)))))))))

    -- what is got, whatever the targets and their terms
    module _ (targets : List ℕ) (terms : List Term) (values : List ℤ) (mine : Each (λ target. has (proc_at d.procs number).locals target ≡ true) targets)
        (fits : (bound : ℕ → Bool) → Each (TermFits (file_label d.inst) bound) terms) (no_variables : (y : ℕ) → Each (λ t. has_variable t y ≡ false) terms) (no_messages : (y : ℕ) → (j == y) ≡ false → Each (λ t. has_message t y ≡ false) terms)
        (covered : Covers n later targets terms values) (enough : length targets ≤ length values) where
      target-there : (x : ℕ) → has targets x ≡ true → has variables x ≡ true
      target-there x h = local-there d number proc x (each-at (λ target. has proc.locals target ≡ true) targets x mine h)

      spared : (y : ℕ) → has (bound_names next) y ≡ true → AllSpared targets terms y
      spared y bound =
          let lacks = bound-apart d number proc next y known-next bound in
          record {
            other = not-true (has targets y) (λ h. true-false (has variables y) (target-there y h) lacks);
            variable = no_variables y;
            message = no_messages y (eqb-other j y (λ e. true-false (has (bound_names next) y) bound (ap (has (bound_names next)) (sym e) ∙ unbound_next)));
          }

      put-lacks : (y : ℕ) → has (bound_names (put next targets terms)) y ≡ true → has ns y ≡ false
      put-lacks y bound =
          let there_too = subst (λ (b : List ℕ). has b y ≡ true) (bound-changed (for_variables targets terms Own) next) bound in
          lacks-both next y unbound_next (bound-apart d number proc next y known-next there_too) there_too

      pub was-got : IsValid d.inst (got_sequent d proc note label tag j targets terms next) → ready rest test (with_numbers names targets values) later ≡ true
      was-got valid =
          next-ready d formed number there rest after test formed_rest known_after ends (with_numbers names targets values) later
          (sym (put-same d.inst variables next known-next later targets terms n (with_numbers names targets values) spared (λ z h. put-numbers n later targets terms values names z covered enough (λ lack. refl)))
          ∙ sym (after-receive d formed label tag protocol.0 protocol.1 n state refl stands.sorted node stands.named.known id tagged receivable (Var me_word) j stands.named.me named-message are-there ns me-over j-there
          (put next targets terms) (about-put d.inst targets terms fits next (file-about d.inst variables next known-next)) put-lacks)
          ∙ valid 0 state n stands.sorted (record { own_label = fitting.own_label; variables = fitting.variables; messages = fitting.messages })
          (each-append (λ h. holds h.formula n state ≡ true) (facts_at d proc note) (receive_hypotheses d.inst (known_with d proc label tag j) (taking label tag j))
          (facts-hold d formed number node names state note stands n follows note-there)
          (receive-said d formed label tag protocol.0 protocol.1 n state refl stands.sorted node stands.named.known id tagged receivable (Var me_word) j stands.named.me named-message are-there ns me-over j-there
          (vars_of d proc) (record { 0 = j; 1 = label; 2 = tag } ∷ []) guard-lacks)))

    -- an await
    pub awaited : (sender : ℕ) (args : List ℕ) → length args ≡ length (tag_at d.inst label tag).args → AreTargets (proc_at d.procs number) (sender ∷ args)
        → IsValid d.inst (got_sequent d proc note label tag j (sender ∷ args) (terms_of_message j) next) → ready rest test (got_names names sender args message.from message.args) later ≡ true
    awaited sender args count targets valid =
        was-got (sender ∷ args) (terms_of_message j) (pos message.from ∷ message.args) targets.0 message-fits message-variables message-messages
        (stays From (λ q. cc), message-covers args count)
        (let e = args-count in let f = length-map (λ (p : Parameter). p.0) (tag_at d.inst label tag).args in omega (e, f, count, arith)) valid

    -- a poll
    pub polled : (got sender : ℕ) (args : List ℕ) → length args ≡ length (tag_at d.inst label tag).args → AreTargets (proc_at d.procs number) (got ∷ sender ∷ args)
        → IsValid d.inst (got_sequent d proc note label tag j (got ∷ sender ∷ args) (Num (pos 1) ∷ terms_of_message j) next) → ready rest test (got_names (with_number names got (pos 1)) sender args message.from message.args) later ≡ true
    polled got sender args count targets valid =
        was-got (got ∷ sender ∷ args) (Num (pos 1) ∷ terms_of_message j) (pos 1 ∷ pos message.from ∷ message.args) targets.0
        (λ bound. (tt, message-fits bound)) (λ y. (refl, message-variables y)) (λ y h. (refl, message-messages y h))
        (refl, (stays From (λ q. cc), message-covers args count))
        (let e = args-count in let f = length-map (λ (p : Parameter). p.0) (tag_at d.inst label tag).args in omega (e, f, count, arith)) valid
