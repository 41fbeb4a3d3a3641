-- Where no name is faulty, nothing is named `int`.
use Rattle.std.proofs.Common.{◌≡◌, ℕ, Bool, true, false, List, [], ◌∷◌, ◌++◌, Option, Some, None, refl, ◌⊎◌, inl, inr}
use Rattle.std.specs.Prelude.{◌||◌, unwrap_or, codes}
use Rattle.std.specs.Str.{bytes_eq}
use Rattle.dl_tree.specs.declared.tree.Place.{Place}
use Rattle.dl_tree.specs.declared.tree.Tree.{Tree, Num, Sym, List'}
use Rattle.dl_forms.specs.Context.{Text, look_up, is_among}
use Rattle.dl_forms.specs.Table.{reserved}
use Rattle.dl_forms.specs.Judge.{at, rule_if, text_of}
use Rattle.dl_forms.specs.Judge as inner
use Rattle.dl_notation.specs.declared.role.NameRole.{NameRole}
use Rattle.dl_notation.specs.declared.role.NameRole.TheVariants as name
use Rattle.dl_notation.specs.declared.role.ListRole.{ListRole}
use Rattle.dl_notation.specs.declared.role.ListRole.TheVariants as list
use Rattle.dl_notation.specs.declared.role.FormulaRole.{FormulaRole}
use Rattle.dl_notation.specs.declared.role.FormulaRole.TheVariants as formula
use Rattle.dl_notation.specs.declared.role.TermRole.{TermRole}
use Rattle.dl_notation.specs.declared.role.TermRole.TheVariants as term
use Rattle.dl_notation.specs.Environment.{ProtocolNames, ProcedureNames, Environment, nothing, protocol_number}
use Rattle.dl_notation.specs.Obligations.{own_of}
use Rattle.dl_notation.specs.Behind.{naming, wants_message, named_behind, entered, closed, with_item, declared_procedure, own_given, left_behind}
use Rattle.dl_notation.specs.Rules.{◌or_rule◌, declares, introduces, name_rule, hook_labels, script_context, given_context, formula_stage, term_stage}
use Rattle.dl_one_file.proofs.Trees.{neither}
use Rattle.dl_one_file.proofs.Names.{other-way}
use Rattle.dl_one_file.proofs.PlainFormulas.{CleanStage}

split : (b : Bool) → (b ≡ true) ⊎ (b ≡ false)
split true = inl refl
split false = inr refl

no-either : (a b : Bool) → a ≡ false → b ≡ false → (a || b) ≡ false
no-either true b ha hb = ha
no-either false b ha hb = hb

-- no label, no procedure and no local is named `int`
pub record IsClean (labels : List (Text × ℕ)) (procedures : List (Text × ProcedureNames)) (locals : List Text) : Type 0 where
  pub labels_clean : look_up (codes "int") labels ≡ None
  pub procedures_clean : look_up (codes "int") procedures ≡ None
  pub locals_clean : is_among (codes "int") locals ≡ false

abbrev pub CleanThere : Environment → Type 0
CleanThere env = IsClean env.labels env.procedures env.locals

pub clean-first : CleanThere nothing
clean-first = record { labels_clean = refl; procedures_clean = refl; locals_clean = refl }

-- ---- rules

pub broken : (rule : ℕ) (b : Bool) → rule_if rule b ≡ None → b ≡ false
broken rule true h = cc
broken rule false h = refl

pub first-rule : (a b : Option ℕ) → (a or_rule b) ≡ None → a ≡ None
first-rule None b h = refl
first-rule (Some r) b h = cc

pub no-rule : (rule : Option ℕ) (p : Place) → at rule p ≡ None → rule ≡ None
no-rule None p h = refl
no-rule (Some r) p h = cc

-- a name that isn't reserved isn't `int`
not-int : (text : Text) → is_among text reserved ≡ false → bytes_eq (codes "int") text ≡ false
unfolding reserved
not-int text h = other-way text (codes "int") (neither (bytes_eq text (codes "int")) _ h).0

pub declared-not-int : (env : Environment) (text : Text) → declares env text ≡ None → bytes_eq (codes "int") text ≡ false
declared-not-int env text h = not-int text (neither (is_among text reserved) (is_among text env.declared) (broken 12 (is_among text reserved || is_among text env.declared) h)).0

pub introduced-not-int : (env : Environment) (text : Text) → introduces env text ≡ None → bytes_eq (codes "int") text ≡ false
introduced-not-int env text h = not-int text (neither (is_among text reserved) _ (broken 13 _ h)).0

-- ---- behind names

naming-clean : (env : Environment) (message : Bool) (text : Text) → CleanThere env → CleanThere (naming env message text)
naming-clean env true text h = h
naming-clean env false text h = h

among-behind : (text : Text) (texts : List Text) (last : Text) → is_among text texts ≡ false → bytes_eq text last ≡ false → is_among text (texts ++ last ∷ []) ≡ false
among-behind text [] last h other = no-either (bytes_eq text last) false other refl
among-behind text (t ∷ texts) last h other =
    let each = neither (bytes_eq text t) (is_among text texts) h in
    no-either (bytes_eq text t) (is_among text (texts ++ last ∷ [])) each.0 (among-behind text texts last each.1 other)

look-behind : {X : Type 0} (text : Text) (entries : List (Text × X)) (last : Text) (x : X) → look_up text entries ≡ None → bytes_eq text last ≡ false → look_up text (entries ++ (last, x) ∷ []) ≡ None
look-behind text [] last x h other = rw other refl
look-behind text (entry ∷ entries) last x h other =
    elim (split (bytes_eq text entry.0)) [
      | inl e ↦ (let k = rw e at h in cc)
      | inr e ↦ rw e (look-behind text entries last x (rw e at h) other)
    ]

pub named-clean : (env : Environment) (n : NameRole) (text : Text) → name_rule env n text ≡ None → CleanThere env → CleanThere (named_behind env n text)
named-clean env name.NewLocal text rule h = record {
  labels_clean = h.labels_clean;
  procedures_clean = h.procedures_clean;
  locals_clean = among-behind (codes "int") env.locals text h.locals_clean (introduced-not-int env text (first-rule (introduces env text) _ rule));
}
named-clean env name.NewStepName text rule h = naming-clean env (wants_message env.named) text h
named-clean env _ text rule h = h

-- ---- in and behind lists

pub entered-clean : (env : Environment) (l : ListRole) (word : Text) → CleanThere env → CleanThere (entered env l word)
entered-clean env list.Item word h = h
entered-clean env list.Send word h = h
entered-clean env list.Receive word h = h
entered-clean env list.SortBody word h = h
entered-clean env list.Arguments word h = h
entered-clean env list.Parameters word h = h
entered-clean env list.WorldLabels word h = h
entered-clean env list.WorldHooks word h = h
entered-clean env list.Command word h = h
entered-clean env list.Obligation word h = h
entered-clean env list.Script word h = h
entered-clean env _ word h = h

closed-clean : (before inside : Environment) → CleanThere before → CleanThere inside → CleanThere (closed before inside)
closed-clean before inside h k = record { labels_clean = k.labels_clean; procedures_clean = k.procedures_clean; locals_clean = h.locals_clean }

own-clean : (env : Environment) (own : Option ProtocolNames) → CleanThere env → CleanThere (own_given env own)
own-clean env None h = h
own-clean env (Some own) h = h

-- the first name of an item that declares a label or a procedure isn't `int`
pub record Declared (word : Text) (parts : List Tree) : Type 0 where
  pub label : bytes_eq word (codes "label") ≡ true → (first : Tree) (rest : List Tree) → parts ≡ first ∷ rest → bytes_eq (codes "int") (text_of first) ≡ false
  pub procedure : bytes_eq word (codes "proc") ≡ true → (first : Tree) (rest : List Tree) → parts ≡ first ∷ rest → bytes_eq (codes "int") (text_of first) ≡ false

with-item-clean : (env : Environment) (word : Text) (parts : List Tree) → Declared word parts → CleanThere env → CleanThere (with_item env word parts)
with-item-clean env word [] declared h = h
with-item-clean env word (first ∷ []) declared h =
    elim (split (bytes_eq word (codes "protocol")))
    [ inl e ↦ rw e h | inr e ↦ rw e h ]
with-item-clean env word (first ∷ part ∷ parts) declared h =
    elim (split (bytes_eq word (codes "sort"))) [
      | inl e ↦ rw e h
      | inr e1 ↦ elim (split (bytes_eq word (codes "protocol"))) [
        | inl e ↦ rw (e1, e) h
        | inr e2 ↦ elim (split (bytes_eq word (codes "label"))) [
          | inl e ↦ rw (e1, e2, e) (record {
            labels_clean = look-behind (codes "int") env.labels (text_of first) (unwrap_or (protocol_number env (text_of part)) 0) h.labels_clean (declared.label e first (part ∷ parts) refl);
            procedures_clean = h.procedures_clean;
            locals_clean = h.locals_clean;
          })
          | inr e3 ↦ elim (split (bytes_eq word (codes "hook"))) [
            | inl e ↦ rw (e1, e2, e3, e) h
            | inr e4 ↦ elim (split (bytes_eq word (codes "world"))) [
              | inl e ↦ rw (e1, e2, e3, e4, e) h
              | inr e5 ↦ elim (split (bytes_eq word (codes "invariant"))) [
                | inl e ↦ rw (e1, e2, e3, e4, e5, e) h
                | inr e6 ↦ elim (split (bytes_eq word (codes "proc"))) [
                  | inl e ↦ rw (e1, e2, e3, e4, e5, e6, e) (record {
                    labels_clean = h.labels_clean;
                    procedures_clean = look-behind (codes "int") env.procedures (text_of first) (declared_procedure env (text_of part)) h.procedures_clean (declared.procedure e first (part ∷ parts) refl);
                    locals_clean = h.locals_clean;
                  })
                  | inr e ↦ rw (e1, e2, e3, e4, e5, e6, e) h
                ]
              ]
            ]
          ]
        ]
      ]
    ]

pub left-clean : (before inside : Environment) (l : ListRole) (word : Text) (parts : List Tree) → (l ≡ list.Item → Declared word parts) → CleanThere before → CleanThere inside → CleanThere (left_behind before inside l word parts)
left-clean before inside list.Item word parts declared h k = closed-clean before (with_item inside word parts) h (with-item-clean inside word parts (declared refl) k)
left-clean before inside list.ProtocolPart word parts declared h k = closed-clean before inside h k
left-clean before inside list.Parameter word parts declared h k = k
left-clean before inside list.Send word parts declared h k = closed-clean before inside h k
left-clean before inside list.Receive word parts declared h k = closed-clean before inside h k
left-clean before inside list.Command word parts declared h k = closed-clean before inside h k
left-clean before inside list.Obligation word parts declared h k = own-clean before (own_of before word parts) h
left-clean before inside list.Script word parts declared h k = closed-clean before inside h k
left-clean before inside _ word parts declared h k = k

-- ---- terms and formulas

hook-labels-clean : (env : Environment) (labels : List (Text × ℕ)) → look_up (codes "int") labels ≡ None → look_up (codes "int") (hook_labels env labels) ≡ None
hook-labels-clean env [] h = refl
hook-labels-clean env (label ∷ labels) h =
    elim (split (bytes_eq (codes "int") label.0)) [
      | inl e ↦ (let k = rw e at h in cc)
      | inr e ↦ elim (split (bytes_eq label.0 env.core || bytes_eq label.0 env.label)) [
        | inl is ↦ rw (is, e) (hook-labels-clean env labels (rw e at h))
        | inr is ↦ rw is (hook-labels-clean env labels (rw e at h))
      ]
    ]

script-clean : (env : Environment) → CleanThere env → CleanStage (inner.OfNames (script_context env))
script-clean env h =
    elim (split env.has_own)
    [ inl e ↦ rw e refl | inr e ↦ rw e h.labels_clean ]

pub formula-clean : (env : Environment) (f : FormulaRole) → CleanThere env → CleanStage (formula_stage env f)
formula-clean env formula.Guard h = refl
formula-clean env formula.Coherence h = refl
formula-clean env formula.Hook h = hook-labels-clean env env.labels h.labels_clean
formula-clean env formula.Invariant h = h.labels_clean
formula-clean env formula.Precondition h = h.labels_clean
formula-clean env formula.Postcondition h = h.labels_clean
formula-clean env formula.Annotation h = h.labels_clean
formula-clean env formula.Frame h = h.labels_clean
formula-clean env formula.Test h = h.labels_clean
formula-clean env formula.Claim h = script-clean env h

given-clean : (env : Environment) (tree : Tree) → CleanThere env → CleanStage (inner.OfNames (given_context env tree))
given-clean env (Num v p) h = script-clean env h
given-clean env (Sym text p) h = script-clean env h
given-clean env (List' s row p) h = script-clean env h

pub term-clean : (env : Environment) (t : TermRole) (tree : Tree) → CleanThere env → CleanStage (term_stage env t tree)
term-clean env term.FirstValue tree h = refl
term-clean env term.Update tree h = refl
term-clean env term.Expression tree h = h.labels_clean
term-clean env term.Bounded tree h = script-clean env h
term-clean env term.Given tree h = given-clean env tree h
