mod WordCounts
