-- An entrance and a connection may go to another thread: each type by its parts, since one search through all of them takes too many steps.
use denote.Param.Send.{AllSend, IsSend, IsSync, recorded_send, struct_send, sendable}
use denote.Struct.Declared.{shape}
use Rattle.std.proofs.Crossing.{crosses}
use Rattle.std.proofs.MapsCrossing.{BTreeMap-send}
use Rattle.matchit.proofs.tree.Node.TheLaws.TheKnot as nodes
use Rattle.matchit.specs.contracts.router.Router as router
use Rattle.matchit.specs.contracts.router.Router.TheInside as router_inside
use Rattle.matchit.specs.contracts.tree.Node as node
use Rattle.web_messages.specs.contracts.paths.Paths as paths
use Rattle.web_messages.specs.contracts.resource.Resource as resource
use Rattle.waiting_room.specs.contracts.alone.Alone as alone
use Rattle.waiting_room.specs.contracts.caller.Caller as caller
use Rattle.waiting_room.specs.contracts.connection.Connection as connection
use Rattle.waiting_room.specs.contracts.entrance.Entrance as entrance
use Rattle.waiting_room.specs.contracts.inside.Inside as inside
use Rattle.waiting_room.specs.contracts.poller.Poller as poller
use Rattle.waiting_room.specs.contracts.room.Room as room
use Rattle.waiting_room.specs.contracts.visitor.Visitor as visitor

-- the paths: a router and its tree
nodes_send : IsSend (node.the_field).row
nodes_send = search (nodes.crosses, sendable, crosses) depth 20

resource_send : IsSend resource.the_row
resource_send = search (sendable, crosses) depth 20

router_parts_send : IsSend (router_inside.the_row resource.the_row)
router_parts_send = let fields : AllSend (shape (router_inside.the_type resource.the_row)).fields = (search (sendable, crosses) depth 20, (nodes_send, (search (sendable, crosses) depth 20, (search (resource_send, sendable, crosses) depth 20, search (sendable, crosses) depth 20)))) in recorded_send (router_inside.the_field resource.the_row).row _ _ (router_inside.the_type resource.the_row).to_one (struct_send (shape (router_inside.the_type resource.the_row)) fields)

router_send : IsSend (router.the_field resource.the_row).row
router_send = search (router_parts_send, sendable) depth 20

paths_send : IsSend (paths.the_field).row
paths_send = search (router_send, sendable) depth 20

-- what the room's lock guards
connection_send : IsSend (connection.the_field).row
connection_send = search (sendable, crosses) depth 20

poller_send : IsSend (poller.the_field).row
poller_send = search (sendable, crosses) depth 20

inside_send : IsSend (inside.the_field).row
inside_send = struct_send (shape inside.the_type) (search (sendable, crosses) depth 20, (paths_send, (search (sendable, crosses) depth 20, (search (sendable, crosses) depth 20, (search (poller_send, sendable, crosses) depth 20, (search (connection_send, BTreeMap-send, sendable) depth 20, search (sendable, crosses) depth 20))))))

room_send : IsSend (room.the_field).row
room_send = search (inside_send, sendable, crosses) depth 20

room_sync : IsSync (room.the_field).row
room_sync = search (inside_send, sendable, crosses) depth 20

-- what workers have
alone_send : IsSend (alone.the_field).row
alone_send = search (sendable, crosses) depth 20

visitor_send : IsSend (visitor.the_field).row
visitor_send = search (room_send, room_sync, connection_send, sendable, crosses) depth 20

pub caller_send : IsSend (caller.the_field).row
caller_send = search (alone_send, visitor_send, sendable, crosses) depth 20

pub entrance_send : IsSend (entrance.the_field).row
entrance_send = search (room_send, room_sync, sendable, crosses) depth 20
