-- Where the four changed formulas hold.
use Rattle.std.proofs.Common.{◌≡◌, ℕ, false, refl}
use Rattle.dl_term.specs.declared.syntax.Term.{Term}
use Rattle.dl_term.specs.declared.syntax.Formula.{Formula}
use Rattle.dl_term.specs.State.{State}
use Rattle.dl_term.specs.Names.{Names, Given, with_number, with_message}
use Rattle.dl_term.specs.Meaning.{value, holds}
use Rattle.dl_subst.specs.declared.message.NewMessage.{NewMessage}
use Rattle.dl_subst.specs.Change.{captures}
use Rattle.dl_subst.specs.Substitution.{for_variable, for_message, for_term, for_own, new_part, substituted, message_substituted, replaced, with_own, with_label, term_with_label}
use Rattle.dl_subst.proofs.Changed.{holds-changed, value-changed}
use Rattle.dl_subst.proofs.Between.{Unbound, AtVariable, AtMessage, AtTerm, AtOwn, keeps-variable, keeps-message, keeps-term, keeps-own}
use Rattle.dl_subst.proofs.OwnLemmas.{term-quiet, formula-quiet}

itself : (names : Names) → Unbound (λ x. false) (λ m. false) names names
itself names = record { own = refl; numbers = λ z clear. refl; messages = λ k clear. refl }

pub holds-substituted : (f : Formula) (x : ℕ) (new : Term) (names : Names) (state : State) → captures (for_variable x new) f ≡ false →
    holds (substituted f x new) names state ≡ holds f (with_number names x (value new names state)) state
holds-substituted f x new names state clear =
    holds-changed (for_variable x new) state (AtVariable x (value new names state) names) (keeps-variable x new names state)
    f (λ x. false) (λ m. false) names (with_number names x (value new names state)) (record {
      unbound = itself names;
      own = refl;
      numbers = λ z. refl;
      messages = λ k. refl;
    }) clear

pub holds-message_substituted : (f : Formula) (m : ℕ) (new : NewMessage) (names : Names) (state : State) → captures (for_message m new) f ≡ false →
    holds (message_substituted f m new) names state ≡ holds f (with_message names m (Given (λ part. value (new_part new part) names state))) state
holds-message_substituted f m new names state clear =
    holds-changed (for_message m new) state (AtMessage m (λ part. value (new_part new part) names state) names) (keeps-message m new names state)
    f (λ x. false) (λ m. false) names (with_message names m (Given (λ part. value (new_part new part) names state))) (record {
      unbound = itself names;
      own = refl;
      numbers = λ z. refl;
      messages = λ k. refl;
    }) clear

pub holds-replaced : (f : Formula) (old new : Term) (names : Names) (state : State) → captures (for_term old new) f ≡ false → value old names state ≡ value new names state →
    holds (replaced f old new) names state ≡ holds f names state
holds-replaced f old new names state clear one =
    holds-changed (for_term old new) state (AtTerm old names) (keeps-term old new names state one)
    f (λ x. false) (λ m. false) names names (record {
      unbound = itself names;
      alike = record { own = refl; numbers = λ z. refl; messages = λ k. refl };
      no_variable = λ z bound. absurd (cc);
      no_message = λ k bound. absurd (cc);
    }) clear

own-given : (label : ℕ) (names : Names) → AtOwn label (λ x. false) (λ m. false) names (with_own names label)
own-given label names = record { own = refl; numbers = λ z. refl; messages = λ k. refl }

pub holds-with_label : (f : Formula) (label : ℕ) (names : Names) (state : State) → holds (with_label f label) names state ≡ holds f (with_own names label) state
holds-with_label f label names state =
    holds-changed (for_own label) state (AtOwn label) (keeps-own label state)
    f (λ x. false) (λ m. false) names (with_own names label) (own-given label names) (formula-quiet label (λ x. false) (λ m. false) f)

pub value-with_label : (t : Term) (label : ℕ) (names : Names) (state : State) → value (term_with_label t label) names state ≡ value t (with_own names label) state
value-with_label t label names state =
    value-changed (for_own label) (λ x. false) (λ m. false) names (with_own names label) state
    ((keeps-own label state).reads (λ x. false) (λ m. false) names (with_own names label) (own-given label names))
    t (term-quiet label (λ x. false) (λ m. false) t)
