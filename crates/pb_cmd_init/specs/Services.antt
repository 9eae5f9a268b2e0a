-- The services of a starter plan, and their customer ports.
use Rattle.std.specs.Prelude.{ℕ, ◌+◌, ◌*◌, ◌==◌, min, if◌then◌else◌, List, [], codes}

-- the number of services, if n are wanted: at most four
abbrev pub service_count : ℕ → ℕ
service_count n = min n 4

-- the name of a service
abbrev pub service_name : ℕ → List ℕ
service_name service =
    if service == 1 then codes "red"
    else if service == 2 then codes "blue"
    else if service == 3 then codes "green"
    else codes "yellow"

-- its VID: 100, 200, 300 or 400
abbrev pub service_vid : ℕ → ℕ
service_vid service = 100 * service

-- what follows the number of a site in the names of its customer ports: C1, C1-blue, C1-green and C1-yellow
abbrev pub name_end : ℕ → List ℕ
name_end service =
    if service == 1 then []
    else if service == 2 then codes "-blue"
    else if service == 3 then codes "-green"
    else codes "-yellow"

-- its local port at each site: 3 to 6. The links use the ports 1 and 2
abbrev pub service_port : ℕ → ℕ
service_port service = service + 2
