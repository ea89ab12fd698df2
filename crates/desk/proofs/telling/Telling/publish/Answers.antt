-- What is shown begins what is told.
use Rattle.desk.proofs.Beginnings.{prefix_trans, shown_begins}
use Rattle.desk.proofs.telling.Telling.publish.Goals as goal

pub returns-then-not-tell_all-clause-shown : goal.returns-then-not-tell_all-clause-shown
returns-then-not-tell_all-clause-shown g c =
    let e = c.tell_all.ensures in
    rw e.shown (prefix_trans c.args.self.now.shown c.args.self.now.all c.tell_all.new.self.all c.requires.shown e.later)

pub returns-clause-shown : goal.returns-clause-shown
returns-clause-shown g c =
    let e = c.tell_all.ensures in
    shown_begins c.show.result c.tell_all.new.self.shown c.show.new.self.shown c.show.new.self.all
    (rw (c.show.ensures.same.0, e.shown) (
    prefix_trans c.args.self.now.shown c.args.self.now.all c.tell_all.new.self.all c.requires.shown e.later
    ))
    c.show.ensures.shown
