use Rattle.dl_notation.proofs.shape.headed_form.Goals as goal

pub returns-in-Item : goal.returns-in-Item
returns-in-Item c = rw c.in-Item.is c.chosen-in-Item.ensures

pub returns-in-Command : goal.returns-in-Command
returns-in-Command c = rw c.in-Command.is c.chosen-in-Command.ensures

pub returns-in-Script : goal.returns-in-Script
returns-in-Script c = rw c.in-Script.is c.chosen-in-Script.ensures
