-- `position::Position::celestial` meets its contract. Assumes nothing.
use lib.Dec.{lit≤}
use Rattle.position.specs.Turn.{celestial_of}
use Rattle.position.proofs.Bounds.{box_more, box_turned_xy, box_turned_yz, celestial_box}
use Rattle.position.proofs.Position.celestial.Goals as goal

pub turn_yz-requires : goal.turn_yz-requires
turn_yz-requires c =
    rw c.turn_xy.ensures (box_more (box_turned_xy _ c.requires) (lit≤ tt) (lit≤ tt) (lit≤ tt))

pub turn_xy-requires-2 : goal.turn_xy-requires-2
turn_xy-requires-2 c =
    let box = box_turned_yz _ (box_turned_xy _ c.requires) in
    rw (c.turn_yz.ensures, c.turn_xy.ensures) (box_more box (lit≤ tt) (lit≤ tt) (lit≤ tt))

pub returns : goal.returns
unfolding celestial_of
returns c =
    let a = c.args in
    let e = celestial_box a.argument_of_perigee.angle a.inclination.angle a.node.angle c.requires in
    record {
      is = rw (c.turn_xy-2.ensures, c.turn_yz.ensures, c.turn_xy.ensures);
      box = rw (c.turn_xy-2.ensures, c.turn_yz.ensures, c.turn_xy.ensures) e;
    }
