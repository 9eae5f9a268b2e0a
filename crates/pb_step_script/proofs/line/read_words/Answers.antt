use Rattle.pb_step_script.proofs.line.read_words.Goals as goal

pub returns-in-None-clause-none : goal.returns-in-None-clause-none
returns-in-None-clause-none c = λ event asks. let h = rw c.in-Poll.is at asks in let none =
    rw c.in-None.is at c.in_ok-port-in-Poll.ensures.none in none h.0 h.1 h.2

pub returns-in-None-read_bridge_port-clause-none : goal.returns-in-None-read_bridge_port-clause-none
returns-in-None-read_bridge_port-clause-none c = λ event asks. let h =
    rw c.in-Receive.is at asks in c.in-None-read_bridge_port.ensures.none h.0 h.1 h.2

pub returns-in-None-read_bridge_port-2-clause-none : goal.returns-in-None-read_bridge_port-2-clause-none
returns-in-None-read_bridge_port-2-clause-none c = λ event asks. let h =
    rw c.in-Transmit.is at asks in c.in-None-read_bridge_port-2.ensures.none h.0 h.1 h.2

pub returns-in-None-read_bridge_way-clause-none : goal.returns-in-None-read_bridge_way-clause-none
returns-in-None-read_bridge_way-clause-none c = λ event asks. let h =
    rw c.in-Admin.is at asks in c.in-None-read_bridge_way.ensures.none h.0 h.1 h.2 h.3

pub returns-in-None-read_link_lane-clause-none : goal.returns-in-None-read_link_lane-clause-none
returns-in-None-read_link_lane-clause-none c = λ event asks. let h =
    rw c.in-Take.is at asks in c.in-None-read_link_lane.ensures.none h.0 h.1

pub returns-in-None-read_link_lane-2-clause-none : goal.returns-in-None-read_link_lane-2-clause-none
returns-in-None-read_link_lane-2-clause-none c = λ event asks. let h =
    rw c.in-Put.is at asks in c.in-None-read_link_lane-2.ensures.none h.0 h.1
