-- What the sequents of programs are clean by: terms, guards, what a step says, and lists of names.
use Rattle.std.proofs.Common.{◌≡◌, ℕ, pos, ◌<◌, ◌≤◌, ◌==◌, Bool, true, false, ◌&&◌, Option, Some, None, unwrap_or, List, [], ◌∷◌, ◌++◌, map, filter, slice_get, refl, ap, sym, subst, arith, inl, inr}
use Rattle.std.proofs.lemmas.Bool.{eqb-true, false≢true}
use Rattle.std.specs.Prelude.{nat_le}
use Rattle.std.specs.List.{AllByRecursion as Each}
use Rattle.dl_term.specs.declared.syntax.Lab.TheVariants.{At}
use Rattle.dl_term.specs.declared.syntax.Part.{Part}
use Rattle.dl_term.specs.declared.syntax.Part.TheVariants.{Id, From, To, Live, Arg}
use Rattle.dl_term.specs.declared.syntax.Sort.{Sort}
use Rattle.dl_term.specs.declared.syntax.Term.{Term, Num, Msg}
use Rattle.dl_term.specs.declared.syntax.Formula.{Formula, Eq}
use Rattle.dl_term.specs.Syntax.{opened}
use Rattle.dl_model.specs.declared.protocol.Transition.{Transition}
use Rattle.dl_model.specs.declared.protocol.Tag.{Tag}
use Rattle.dl_model.specs.declared.protocol.Protocol.{Protocol}
use Rattle.dl_model.specs.declared.sequent.Hypothesis.{Hypothesis}
use Rattle.dl_model.specs.declared.sequent.Sequent.{Sequent}
use Rattle.dl_model.specs.declared.file.World.{World}
use Rattle.dl_model.specs.declared.file.Decls.{Decls}
use Rattle.dl_model.specs.Sorts.{has}
use Rattle.dl_model.specs.Words.{me_word, to_word, from_word, first_name}
use Rattle.dl_model.specs.Spoken.{bound_names}
use Rattle.dl_model.specs.Lookup.{Parameter, arg_names, arg_sorts, no_tag, never, receive_of, hook_at}
use Rattle.dl_model.specs.Scopes.{Scope, own_label, hook_label, protocol_found, TermIsKnown, FormulaIsKnown}
use Rattle.dl_model.specs.Formed.{IsFormed, ReceiveIsFormed, TagIsFormed, file_bound}
use Rattle.dl_model.proofs.Small.{and-both, or-both, either-true, eqb-other, lacks-front}
use Rattle.dl_sequent.specs.Bounds.{bounds_of, lies_in, node_sort, in_sort_formula}
use Rattle.dl_sequent.specs.Clean.{knows, is_told_apart}
use Rattle.dl_subst.specs.Substitution.{new_part}
use Rattle.dl_wp.specs.declared.steps.SendStep.{SendStep}
use Rattle.dl_wp.specs.declared.steps.ReceiveStep.{ReceiveStep}
use Rattle.dl_wp.specs.Steps.{names_in_step, args_of_message, spoken_of, tag_in, sent_message, send_step, receive_step}
use Rattle.dl_wp.specs.Before.{before_sent, before_received}
use Rattle.dl_inv.specs.Steps.{called, in_step, all_fit, hook_seen, is_hook_of, all_hooks, is_mine, tag_of}
use Rattle.dl_inv.proofs.Lists.{each-append, each-kept, true-false}
use Rattle.dl_inv.proofs.Told.{told-known}
use Rattle.dl_inv.proofs.StepTold.{IsWithin, StepWithin, named-has, before-told, in-step-told}
use Rattle.dl_inv.proofs.FormedParts.{tag-formed, hook-local}
use Rattle.dl_inv.proofs.FileNames.{hook-free, tag-free, received-free}
use Rattle.dl_inv.proofs.Clean.{all-told, between-told, fits-told, get-within}
use Rattle.dl_model.specs.Formed.{transition_bound}
use Rattle.dl_triples.specs.Obligations.{all_in_sort, send_rule, allowed}
use Rattle.dl_programs.proofs.Telling.{bound-large, bound-clear, inside-of}

-- ---- terms

-- each name of the term is known
pub knows-of : (t : Term) (scope : Scope) (vars messages : List ℕ) → TermIsKnown scope t → ((x : ℕ) → has scope.variables x ≡ true → has vars x ≡ true) → ((k : ℕ) → has scope.messages k ≡ true → has messages k ≡ true) → knows vars messages t ≡ true
knows-of t scope vars messages known p q = left (knows vars messages t) (knows vars messages t) (told-known (Eq t t) scope vars messages (known, known) (record { variables = p; messages_in = q; apart = λ y a b m. absurd (false≢true m) }))
  where
    left : (a b : Bool) → (a && b) ≡ true → a ≡ true
    left true b h = refl
    left false b h = absurd (false≢true h)

pub num-within : (vs ks : List ℕ) (n : ℕ) → IsWithin vs ks (Num (pos n))
num-within vs ks n vars messages p q = refl

-- ---- guards

-- A guard over the names of its tag, which binds names of the file alone.
record GuardIsGood (word : ℕ) (t : Tag) (guard : Formula) : Type 0 where
  told : is_told_apart (me_word ∷ word ∷ arg_names t.args) [] guard ≡ true
  large : (y : ℕ) → has (bound_names guard) y ≡ true → nat_le first_name y ≡ true

known-good : (word : ℕ) (t : Tag) (protocol : Protocol) (guard : Formula) → FormulaIsKnown (record { protocol = own_label protocol; variables = me_word ∷ word ∷ arg_names t.args; messages = [] }) guard → GuardIsGood word t guard
known-good word t protocol guard known =
    let given = me_word ∷ word ∷ arg_names t.args in
    record {
      told = told-known guard (record { protocol = own_label protocol; variables = given; messages = [] }) given [] known (record { variables = λ x m. m; messages_in = λ m k. k; apart = λ y p q m. (p, q) });
      large = λ y m. bound-large guard (record { protocol = own_label protocol; variables = given; messages = [] }) y known m;
    }

false-good : (word : ℕ) (t : Tag) → GuardIsGood word t never.guard
false-good word t = record { told = refl; large = λ y m. absurd (false≢true m) }

received-good : (t : Tag) (protocol : Protocol) (o : Option Transition) → ReceiveIsFormed protocol (me_word ∷ from_word ∷ arg_names t.args) o → GuardIsGood from_word t (unwrap_or o never).guard
received-good t protocol (Some transition) h = known-good from_word t protocol transition.guard h.guard.0.0
received-good t protocol None h = false-good from_word t

record TagIsGood (t : Tag) : Type 0 where
  sends : GuardIsGood to_word t t.send.guard
  receives : GuardIsGood from_word t (receive_of t).guard

no-good : TagIsGood no_tag
no-good = record { sends = false-good to_word no_tag; receives = false-good from_word no_tag }

formed-good : (protocol : Protocol) (t : Tag) → TagIsFormed protocol t → TagIsGood t
formed-good protocol t h = record { sends = known-good to_word t protocol t.send.guard h.send.guard.0.0; receives = received-good t protocol t.receive h.receive }

module _ (d : Decls) (formed : IsFormed d) where
  found-good : (p tag : ℕ) (o : Option Protocol) → slice_get d.inst.protocols p ≡ o → TagIsGood (tag_in o tag)
  found-good p tag None e = no-good
  found-good p tag (Some protocol) e = formed-good protocol (tag_in (Some protocol) tag) (tag-formed d.inst p protocol tag formed.inst e)

  of-label : (o : Option ℕ) (tag : ℕ) → TagIsGood (tag_in (protocol_found d.inst o) tag)
  of-label (Some p) tag = found-good p tag (slice_get d.inst.protocols p) refl
  of-label None tag = no-good

  tag-good : (label tag : ℕ) → TagIsGood (tag_of d.inst None (At label) tag)
  tag-good label tag = of-label (slice_get d.inst.of label) tag

  -- ---- what the file binds, in these names

  module _ (vs ks : List ℕ) (clear : (y : ℕ) → has (file_bound d) y ≡ true → nat_le first_name y ≡ true → (has vs y ≡ false) × (has ks y ≡ false)) where
    abbrev pub IsTold : Formula → Type 0
    IsTold f = is_told_apart vs ks f ≡ true

    abbrev pub IsToldFact : Hypothesis → Type 0
    IsToldFact h = IsTold h.formula

    abbrev pub IsFree : Formula → Type 0
    IsFree f = (y : ℕ) → has (file_bound d) y ≡ false → has (bound_names f) y ≡ false

    sort-told : (given : Sequent) (t : Term) (sort : Sort) → IsWithin vs ks t → IsTold (in_sort_formula d.inst given t sort)
    sort-told given t sort within = between-told vs ks (lies_in (bounds_of d.inst given t) sort) sort t (within vs ks (λ n m. m) (λ n m. m))

    pub sorts-told : (given : Sequent) (ts : List Term) (sorts : List Sort) → Each (IsWithin vs ks) ts → Each IsTold (all_in_sort d.inst given ts sorts)
    sorts-told given [] sorts h = tt
    sorts-told given (t ∷ ts) [] h = tt
    sorts-told given (t ∷ ts) (sort ∷ sorts) h = (sort-told given t sort h.0, sorts-told given ts sorts h.1)

    -- a guard in a step with these terms
    good-told : (label : ℕ) (word : ℕ) (t : Tag) (guard : Formula) (node other : Term) (args : List Term) → GuardIsGood word t guard → IsFree guard → IsWithin vs ks node → IsWithin vs ks other → Each (IsWithin vs ks) args →
        IsTold (in_step (At label) node word other (arg_names t.args) args guard)
    good-told label word t guard node other args good free n o those =
        in-step-told (At label) word (arg_names t.args) (names_in_step node word other (arg_names t.args) args) vs ks (bound_names guard)
        (λ x. named-has (IsWithin vs ks) node word other (arg_names t.args) args x n o (num-within vs ks 0) those)
        guard (λ y m. m) (λ y m. clear y (there y m) (good.large y m)) good.told
      where
        there : (y : ℕ) → has (bound_names guard) y ≡ true → has (file_bound d) y ≡ true
        there y m = go (has (file_bound d) y) refl
          where
            go : (b : Bool) → has (file_bound d) y ≡ b → has (file_bound d) y ≡ true
            go true e = e
            go false e = absurd (true-false (has (bound_names guard) y) m (free y e))

    -- ---- sends

    module _ (label tag : ℕ) (sender to : Term) (args : List Term) (s : IsWithin vs ks sender) (t : IsWithin vs ks to) (those : Each (IsWithin vs ks) args) where
      abbrev step : SendStep
      step = record { label = At label; tag = tag; sender = sender; to = to; args = args }

      abbrev declared : Tag
      declared = tag_of d.inst None (At label) tag

      part-within : (part : Part) → IsWithin vs ks (new_part (sent_message step) part)
      part-within Id = λ vars messages p q. refl
      part-within From = s
      part-within To = t
      part-within Live = λ vars messages p q. refl
      part-within (Arg k) = get-within vs ks args k those

      send-within : StepWithin vs ks (send_step d.inst None step)
      send-within = record {
        node = s;
        named = λ x. named-has (IsWithin vs ks) sender to_word to (arg_names declared.args) args x s t (num-within vs ks 0) those;
        move = part-within;
      }

      pub send-guard-told : IsTold (in_step (At label) sender to_word to (arg_names declared.args) args declared.send.guard)
      send-guard-told = good-told label to_word declared declared.send.guard sender to args (tag-good label tag).sends
          (λ y free. lacks-front (bound_names declared.send.guard) (transition_bound declared.receive) y (tag-free y d free None (At label) tag)) s t those

      pub send-fits-told : (given : Sequent) → IsTold (all_fit d.inst given (send_step d.inst None step) (spoken_of d.inst None (At label)) declared.send.updates)
      send-fits-told given = fits-told vs ks d.inst given (send_step d.inst None step) send-within (spoken_of d.inst None (At label)) declared.send.updates

      hook-told : (hook : ℕ) → IsTold (hook_seen step (hook_at d hook))
      hook-told hook =
          let h = hook_at d hook in
          let given = me_word ∷ to_word ∷ h.args in
          let scope : Scope = record { protocol = hook_label d.inst h; variables = given; messages = [] } in
          let known = (hook-local d formed hook).0.0 in
          in-step-told (At label) to_word h.args (names_in_step sender to_word to h.args args) vs ks (bound_names h.formula)
          (λ x. named-has (IsWithin vs ks) sender to_word to h.args args x s t (num-within vs ks 0) those)
          h.formula (λ y m. m) (bound-clear d vs ks clear h.formula scope known (λ y free. hook-free y d free hook))
          (told-known h.formula scope given [] known (record { variables = λ x m. m; messages_in = λ m k. k; apart = λ y p q m. (p, q) }))

      pub hooks-told : (world : World) → IsTold (all_hooks d world label tag step)
      hooks-told world = all-told vs ks (map (λ hook. hook_seen step (hook_at d hook)) (filter (is_hook_of d label tag) world.hooks))
          (each-kept IsTold (λ hook. hook_seen step (hook_at d hook)) (is_hook_of d label tag) world.hooks (λ hook m q. hook-told hook))

      pub allowed-told : (world : World) (given : Sequent) → IsTold (allowed d world given label tag step)
      allowed-told world given =
          let sorts = all_in_sort d.inst given args (arg_sorts declared.args) in
          all-told vs ks (in_sort_formula d.inst given to (node_sort d.inst.nodes) ∷ (sorts ++ (send_rule d given label tag step ++ all_hooks d world label tag step ∷ []))) (
            sort-told given to (node_sort d.inst.nodes) t,
            each-append IsTold sorts (send_rule d given label tag step ++ all_hooks d world label tag step ∷ []) (sorts-told given args (arg_sorts declared.args) those)
                (send-guard-told, (send-fits-told given, (hooks-told world, tt))),
          )

      pub sent-told : (f : Formula) (scope : Scope) → FormulaIsKnown scope f → IsFree f → ((x : ℕ) → has scope.variables x ≡ true → has vs x ≡ true) → ((k : ℕ) → has scope.messages k ≡ true → has ks k ≡ true) → IsTold (before_sent d.inst None step f)
      sent-told f scope known free p q = before-told vs ks (send_step d.inst None step) send-within f scope (λ m. false) vs ks known (inside-of d vs ks clear f scope known free p q) (record { variables = λ n m. m; messages_in = λ n m. m })

    -- ---- receives

    module _ (label tag : ℕ) (receiver : Term) (k : ℕ) (r : IsWithin vs ks receiver) (there : has ks k ≡ true) where
      abbrev receive : ReceiveStep
      receive = record { label = At label; tag = tag; receiver = receiver; msg = k }

      abbrev received : Tag
      received = tag_of d.inst None (At label) tag

      msg-within : (part : Part) → IsWithin vs ks (Msg k part)
      msg-within part vars messages p q = q k there

      args-within : Each (IsWithin vs ks) (args_of_message k)
      args-within = (msg-within (Arg 0), (msg-within (Arg 1), (msg-within (Arg 2), (msg-within (Arg 3), (msg-within (Arg 4), (msg-within (Arg 5), (msg-within (Arg 6), (msg-within (Arg 7), tt))))))))

      receive-within : StepWithin vs ks (receive_step d.inst None receive)
      receive-within = record {
        node = r;
        named = λ x. named-has (IsWithin vs ks) receiver from_word (Msg k From) (arg_names received.args) (args_of_message k) x r (msg-within From) (num-within vs ks 0) args-within;
        move = there;
      }

      mine-told : IsTold (is_mine receive)
      unfolding opened
      mine-told = and-both _ _ (and-both _ _ there (r vs ks (λ n m. m) (λ n m. m))) (and-both _ _ there refl)

      pub receive-told : (given : Sequent) → (given.own ≡ None) → Each IsToldFact (called 13 (is_mine receive)
          ∷ called 10 (in_step (At label) receiver from_word (Msg k From) (arg_names received.args) (args_of_message k) (receive_of received).guard)
          ∷ called 11 (all_fit d.inst given (receive_step d.inst None receive) (spoken_of d.inst None (At label)) (receive_of received).updates) ∷ [])
      receive-told given own = (
        mine-told,
        (
          good-told label from_word received (receive_of received).guard receiver (Msg k From) (args_of_message k) (tag-good label tag).receives
              (λ y free. received-free y d free received (tag-free y d free None (At label) tag)) r (msg-within From) args-within,
          (fits-told vs ks d.inst given (receive_step d.inst None receive) receive-within (spoken_of d.inst None (At label)) (receive_of received).updates, tt),
        ),
      )

      pub received-told : (f : Formula) (scope : Scope) → FormulaIsKnown scope f → ((y : ℕ) → has (bound_names f) y ≡ true → (has vs y ≡ false) × (has ks y ≡ false)) → ((x : ℕ) → has scope.variables x ≡ true → has vs x ≡ true) → ((k : ℕ) → has scope.messages k ≡ true → has ks k ≡ true) → IsTold (before_received d.inst None receive f)
      received-told f scope known apart p q = before-told vs ks (receive_step d.inst None receive) receive-within f scope (λ m. false) vs ks known (record { variables = p; messages_in = q; apart = λ y a b m. apart y m }) (record { variables = λ n m. m; messages_in = λ n m. m })

-- ---- lists of names

pub above-lack : (xs : List ℕ) → Each (λ x. first_name ≤ x) xs → (n : ℕ) → n < first_name → has xs n ≡ false
above-lack [] h n small = refl
above-lack (x ∷ xs) h n small = or-both (n == x) (has xs n) (eqb-other n x (λ e. let large = h.0 in omega (large, small, e, arith))) (above-lack xs h.1 n small)

pub map-append : (xs ys : List Parameter) → map (λ (v : Parameter). v.0) (xs ++ ys) ≡ map (λ (v : Parameter). v.0) xs ++ map (λ (v : Parameter). v.0) ys
map-append [] ys = refl
map-append (x ∷ xs) ys = ap (λ zs. x.0 ∷ zs) (map-append xs ys)

-- a name of one
pub one-name : (P : ℕ → Type 0) (j n : ℕ) → P j → has (j ∷ []) n ≡ true → P n
one-name P j n h m = elim (either-true (n == j) false m) [ inl e ↦ subst P (sym (eqb-true n j e)) h | inr e ↦ absurd (false≢true e) ]
