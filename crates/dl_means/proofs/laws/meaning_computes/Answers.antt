use Rattle.std.proofs.Common.{◌≡◌, List, [], ◌∷◌, ◌++◌, refl, sym, ap, ◌∙◌, true}
use Rattle.std.specs.Prelude.{codes}
use Rattle.dl_term.specs.Syntax.{opened}
use Rattle.dl_forms.specs.declared.position.Position.TheVariants as position
use Rattle.dl_forms.specs.Context.{Text}
use Rattle.dl_forms.specs.Naming.{names_in}
use Rattle.dl_forms.specs.Form.{head_named}
use Rattle.dl_forms.specs.Table.{reserved, first_names, numbered}
use Rattle.dl_notation.specs.declared.role.ListRole.TheVariants as list
use Rattle.dl_notation.specs.Naming.{names_of_list}
use Rattle.dl_notation.specs.Trees.{parts_of}
use Rattle.dl_shown.specs.Opened.{scripts}
use Rattle.dl_shown.specs.Whole.{shown_file}
use Rattle.dl_means.specs.Flat.{flat}
use Rattle.dl_means.specs.Means.{texts_of, texts_in, fit_parts}
use Rattle.dl_means.specs.Examples.{column, word, list as list_of, update_tree, send_tree, tag_tree, field_tree, protocol_tree, written, file, table}
use Rattle.dl_notation.proofs.NamingLemmas.{names_of_list-List}
use Rattle.dl_means.proofs.Computing.{computing}
use Rattle.dl_means.proofs.laws.meaning_computes.Goals as goal

shown : shown_file table file ≡ flat written
unfolding opened scripts head_named reserved flat
shown = simp computing refl

-- the names of a part of the protocol, and of the tree, as often as they stand there
update_names : names_of_list update_tree list.Update ≡ codes "n" ∷ []
unfolding head_named reserved
update_names = simp computing refl

true_names : names_in (word 68 (codes "true")) position.Formula ≡ []
unfolding head_named reserved
true_names = simp computing refl

no_names : names_of_list (list_of 59 []) list.Arguments ≡ []
unfolding head_named reserved
no_names = simp computing refl

send_names : names_of_list send_tree list.Send ≡ codes "n" ∷ []
unfolding head_named reserved
send_names = names_of_list-List (word 63 (codes "send") ∷ word 68 (codes "true") ∷ update_tree ∷ []) (column 62) list.Send
    ∙ (ap (λ (ts : List Text). ts ++ (names_of_list update_tree list.Update ++ [])) true_names ∙ ap (λ (ts : List Text). ts ++ []) update_names)

tag_names : names_of_list tag_tree list.ProtocolPart ≡ codes "t" ∷ codes "n" ∷ []
unfolding head_named reserved
tag_names = names_of_list-List (word 53 (codes "tag") ∷ word 57 (codes "t") ∷ list_of 59 [] ∷ send_tree ∷ []) (column 52) list.ProtocolPart
    ∙ (ap (λ (ts : List Text). codes "t" ∷ (ts ++ (names_of_list send_tree list.Send ++ []))) no_names ∙ ap (λ (ts : List Text). codes "t" ∷ (ts ++ [])) send_names)

field_names : names_of_list field_tree list.ProtocolPart ≡ codes "n" ∷ codes "s" ∷ codes "z" ∷ []
unfolding head_named reserved
field_names = simp computing refl

protocol_names : names_of_list protocol_tree list.Item ≡ codes "p" ∷ codes "t" ∷ codes "n" ∷ codes "n" ∷ codes "s" ∷ codes "z" ∷ []
unfolding head_named reserved
protocol_names = names_of_list-List (word 41 (codes "protocol") ∷ word 50 (codes "p") ∷ tag_tree ∷ field_tree ∷ []) (column 40) list.Item
    ∙ (ap (λ (ts : List Text). codes "p" ∷ (ts ++ (names_of_list field_tree list.ProtocolPart ++ []))) tag_names ∙ ap (λ (ts : List Text). codes "p" ∷ codes "t" ∷ codes "n" ∷ (ts ++ [])) field_names)

names_are : names_of_list written list.File ≡ codes "a" ∷ codes "s" ∷ codes "z" ∷ codes "o" ∷ codes "p" ∷ codes "t" ∷ codes "n" ∷ codes "n" ∷ codes "s" ∷ codes "z" ∷ codes "c" ∷ codes "p" ∷ codes "w" ∷ codes "c" ∷ codes "v" ∷ codes "w" ∷ codes "w" ∷ codes "i" ∷ codes "v" ∷ codes "x" ∷ codes "z" ∷ codes "c" ∷ codes "n" ∷ codes "x" ∷ codes "v" ∷ codes "i" ∷ codes "k" ∷ []
unfolding head_named reserved
names_are = simp (protocol_names, computing) refl

in_order : texts_of file ≡ texts_in written
unfolding reserved
in_order = ap (λ names. (numbered first_names names).texts) (sym names_are)

fit : fit_parts table file (parts_of written) ≡ true
unfolding opened scripts head_named reserved
fit = simp computing refl

pub returns : goal.returns
unfolding opened scripts head_named reserved
returns c = record {
  names = table;
  texts = refl;
  shown = shown;
  kept = refl;
  in_order = in_order;
  fit = fit;
  listed = record { sorts = refl; protocols = refl; labels = refl; hooks = refl; worlds = refl; invariants = refl; procs = refl; deploy = refl; proofs = refl };
  sorts = refl;
}
