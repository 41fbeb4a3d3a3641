-- Procedures as a file writes them.
use Rattle.std.specs.Prelude.{ℕ, List, [], ◌∷◌, map, Option, Some, None, codes}
use Rattle.dl_term.specs.declared.syntax.Term.{Term}
use Rattle.dl_term.specs.declared.syntax.Formula.{Formula}
use Rattle.dl_tree.specs.declared.tree.Tree.{Tree}
use Rattle.dl_model.specs.declared.program.Command.{Command, Send, Await, Poll, Read, Set, If', While', Call, Row_of-Command, end_of-Command, more_of-Command}
use Rattle.dl_model.specs.declared.program.Proc.{Proc}
use Rattle.dl_model.specs.declared.file.Decls.{Decls}
use Rattle.dl_forms.specs.Table.{NameTable}
use Rattle.dl_forms.specs.Show.{form}
use Rattle.dl_shown.specs.Shown.{listed, name_of, argument_of, protocol_of_label, tag_in, field_in, label_of, tag_name, field_name, world_name, proc_name, term_of, formula_of}

module _ (names : NameTable) (decls : Decls) where
  abbrev pub expression_of : Term → Tree
  expression_of term = term_of names decls None term

  abbrev pub note_of : Formula → Tree
  note_of formula = formula_of names decls None formula

  -- a tag and a field of a label
  abbrev pub sent_tag : ℕ → ℕ → Tree
  sent_tag label tag = tag_name names decls (tag_in (protocol_of_label decls.inst label) tag)

  abbrev pub read_field : ℕ → ℕ → Tree
  read_field label field = field_name names decls (field_in (protocol_of_label decls.inst label) field)

  abbrev pub index_of : Option Term → List Tree
  index_of (Some index) = expression_of index ∷ []
  index_of None = []

abbrev mutual
  pub command_of : NameTable → Decls → Command → Tree
  command_of names decls (Send note label tag to args) =
      form (codes "send") (note_of names decls note ∷ label_of names decls label ∷ sent_tag names decls label tag ∷ expression_of names decls to ∷ map (expression_of names decls) args)
  command_of names decls (Await note label tag sender args) =
      form (codes "await") (note_of names decls note ∷ label_of names decls label ∷ sent_tag names decls label tag ∷ name_of names sender ∷ listed (map (name_of names) args) ∷ [])
  command_of names decls (Poll note got label tag sender args) =
      form (codes "poll") (note_of names decls note ∷ name_of names got ∷ label_of names decls label ∷ sent_tag names decls label tag ∷ name_of names sender ∷ listed (map (name_of names) args) ∷ [])
  command_of names decls (Read note into label field index) =
      form (codes "read") (note_of names decls note ∷ name_of names into ∷ label_of names decls label ∷ read_field names decls label field ∷ index_of names decls index)
  command_of names decls (Set local value) = form (codes "set") (name_of names local ∷ expression_of names decls value ∷ [])
  command_of names decls (If' test _ left _ right) =
      form (codes "if") (note_of names decls test ∷ form (codes "then") (commands_of names decls left) ∷ form (codes "else") (commands_of names decls right) ∷ [])
  command_of names decls (While' test note _ body) = form (codes "while") (note_of names decls test ∷ note_of names decls note ∷ commands_of names decls body)
  command_of names decls (Call note frame into proc args) =
      form (codes "call") (note_of names decls note ∷ note_of names decls frame ∷ name_of names into ∷ proc_name names decls proc ∷ map (expression_of names decls) args)

  pub commands_of : {m : _} → NameTable → Decls → Row_of-Command m → List Tree
  commands_of names decls end_of-Command = []
  commands_of names decls (more_of-Command command rest) = command_of names decls command ∷ commands_of names decls rest

abbrev pub proc_of : NameTable → Decls → Proc → Tree
proc_of names decls proc =
    form (codes "proc") (name_of names proc.sym ∷ world_name names decls proc.world ∷ listed (map (argument_of names) proc.params)
    ∷ form (codes "locals") (map (name_of names) proc.locals) ∷ form (codes "pre") (note_of names decls proc.pre ∷ []) ∷ form (codes "post") (note_of names decls proc.post ∷ [])
    ∷ form (codes "body") (map (command_of names decls) proc.body) ∷ form (codes "return") (expression_of names decls proc.result ∷ []) ∷ [])
