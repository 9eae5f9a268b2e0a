mod Descent
mod Roads
mod UnusedPorts
mod Rooms
mod Meetings
mod Standstill
mod Choosing
mod StandstillLaw
